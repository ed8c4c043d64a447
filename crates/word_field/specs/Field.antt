-- What a field is. Its elements are written as values of a type E.
use Rattle.std.specs.Prelude.{◌≡◌, ◌≢◌, ℕ, ◌<◌, ◌⊎◌}

-- The operations of a field. They are defined on all of E, and several values of E may be written for one
-- element, as 3 and 10 are modulo 7. `reduce` gives the one among them that the operations answer with.
pub record FieldOps (E : Type 0) : Type 0 where
  pub reduce : E → E
  pub zero : E
  pub one : E
  pub plus : E → E → E
  pub negate : E → E
  pub times : E → E → E
  -- how many elements there are, the number of an element, and the element of a number
  pub size : ℕ
  pub word : E → ℕ
  pub of_word : ℕ → E

-- a is an element of the field, in the form that the operations give
abbrev pub IsValue : {E : Type 0} → FieldOps E → E → Type 0
IsValue K a = K.reduce a ≡ a

-- The operations are those of a field. On its elements `reduce` changes nothing, so there a + 0 = a and a * 1 = a.
pub record IsField {E : Type 0} (K : FieldOps E) : Type 0 where
  -- sums
  pub plus_assoc : (a b c : E) → K.plus (K.plus a b) c ≡ K.plus a (K.plus b c)
  pub plus_comm : (a b : E) → K.plus a b ≡ K.plus b a
  pub plus_zero : (a : E) → K.plus a K.zero ≡ K.reduce a
  pub plus_negate : (a : E) → K.plus a (K.negate a) ≡ K.zero
  -- products
  pub times_assoc : (a b c : E) → K.times (K.times a b) c ≡ K.times a (K.times b c)
  pub times_comm : (a b : E) → K.times a b ≡ K.times b a
  pub times_one : (a : E) → K.times a K.one ≡ K.reduce a
  pub times_plus : (a b c : E) → K.times a (K.plus b c) ≡ K.plus (K.times a b) (K.times a c)
  pub inverse : (a : E) → K.reduce a ≢ K.zero → (b : E) × (K.times a b ≡ K.one)
  -- equality
  pub one_not_zero : K.one ≢ K.zero
  pub equal_or_not : (a b : E) → (a ≡ b) ⊎ (a ≢ b)
  -- each operation gives an element
  pub zero_value : IsValue K K.zero
  pub one_value : IsValue K K.one
  pub plus_value : (a b : E) → IsValue K (K.plus a b)
  pub negate_value : (a : E) → IsValue K (K.negate a)
  pub times_value : (a b : E) → IsValue K (K.times a b)
  pub of_word_value : (w : ℕ) → IsValue K (K.of_word w)
  -- the numbers below the size are the numbers of the elements, one each
  pub word_below : (a : E) → IsValue K a → K.word a < K.size
  pub of_word_word : (a : E) → IsValue K a → K.of_word (K.word a) ≡ a
  pub word_of_word : (w : ℕ) → w < K.size → K.word (K.of_word w) ≡ w
  pub word_zero : K.word K.zero ≡ 0
  pub word_one : K.word K.one ≡ 1
