-- The two kinds of fields that presentations are over.
use Rattle.std.proofs.Common.{◌≡◌, ℕ, ◌*◌, Bool, true, false, cond, eqb, ⊎_elim, List, Result, Ok, Err, refl, sym, ap, subst, ◌∙◌, arith}
use Rattle.std.proofs.Math.Bool.{Bool-set}
use Rattle.std.proofs.lemmas.Bool.{or_cases, eqb-true}
use Rattle.word_field.specs.Field.{FieldOps, IsField}
use Rattle.word_field.specs.Residues.{residues, is_listed}
use Rattle.word_field.specs.laws.Residues.{residues_field}
use Rattle.word_field.specs.declared.WordField.{WordField}
use Rattle.ext_field.specs.PairField.{pairs_of, is_pair_size}
use Rattle.ext_field.specs.declared.pair.Pair.{Pair}
use Rattle.ext_field.specs.declared.pair_field.PairField.{PairField}
use Rattle.ext_field.specs.laws.Pairs.{pairs_field}
use Rattle.ext_field.specs.laws.Sizes.{one_field as one_pair_field, square_size, pairs_of_square}
use Rattle.polynomial_text.specs.Results.{◌>>=◌}
use Rattle.presentation_text.specs.Heading.{is_size}
use Rattle.presentation_text.specs.Reading.{Line, Head, Reading, AnyReading, reading_over, reading_behind}
use Rattle.presentation_text.specs.Reading.AnyReading.{word, pair}
use Rattle.presentation_text.specs.Meaning.{word_ops, pair_ops}

-- the fields with these operations, the operations of a size, and the readings over them
pub record IsKind {F E : Type 0} (ops : F → FieldOps E) (of_size : ℕ → FieldOps E) (any : Reading E → AnyReading) : Type 0 where
  pub laws : (f : F) → IsField (ops f)
  pub known : (f : F) → is_size (ops f).size ≡ true
  pub field : (f : F) → of_size (ops f).size ≡ ops f
  pub one : (f g : F) → (ops f).size ≡ (ops g).size → f ≡ g
  pub behind : (f : F) (last : ℕ) (h : Head) (ls : List Line) → h.size ≡ (ops f).size → reading_behind last h ls ≡ (reading_over (ops f) last h ls >>= λ r. Ok (any r))
  pub was : (last : ℕ) (h : Head) (ls : List Line) (r : Reading E) → is_size h.size ≡ true → reading_behind last h ls ≡ Ok (any r) → IsField (of_size h.size) × (reading_over (of_size h.size) last h ls ≡ Ok r)
  pub same : (r s : Reading E) → any r ≡ any s → r ≡ s

-- ---- numbers

field_of : (m : ℕ) → is_listed m ≡ true → WordField
field_of m h = record { modulus = m; listed = h }

-- a field is known by its size
field_same : (m n : ℕ) → m ≡ n → (h : is_listed m ≡ true) (k : is_listed n ≡ true) → field_of m h ≡ field_of n k
field_same m n e h = subst (λ (x : ℕ). (k : is_listed x ≡ true) → field_of m h ≡ field_of x k) e (λ k. ap (field_of m) (Bool-set (is_listed m) true h k))

one_word_field : (f g : WordField) → f.modulus ≡ g.modulus → f ≡ g
unfolding field_of
one_word_field f g e = field_same f.modulus g.modulus e f.listed g.listed

listed_size : (q : ℕ) → is_listed q ≡ true → is_size q ≡ true
listed_size q e = rw e refl

pub no_pair_size : (q : ℕ) → is_listed q ≡ true → is_pair_size q ≡ false
no_pair_size q e = grind arith

words_behind : (q last : ℕ) (h : Head) (ls : List Line) → is_listed q ≡ true → h.size ≡ q → reading_behind last h ls ≡ (reading_over (residues q) last h ls >>= λ r. Ok (word r))
unfolding reading_behind
words_behind q last h ls listed e =
    let other : is_pair_size h.size ≡ false = ap is_pair_size e ∙ no_pair_size q listed in
    rw other (ap (λ (n : ℕ). reading_over (residues n) last h ls >>= λ r. Ok (word r)) e)

made_of : {A B G : Type 0} (f : A → B) (r : Result A G) (y : B) → (r >>= λ x. Ok (f x)) ≡ Ok y → (x : A) × (r ≡ Ok x) × (f x ≡ y)
made_of f (Ok x) y e = (x, refl, cc)
made_of f (Err k) y e = absurd cc

words_was : (last : ℕ) (h : Head) (ls : List Line) (r : Reading ℕ) → is_size h.size ≡ true → reading_behind last h ls ≡ Ok (word r) → IsField (residues h.size) × (reading_over (residues h.size) last h ls ≡ Ok r)
unfolding reading_behind
words_was last h ls r known e = by (is_pair_size h.size) refl e
  where
    by : (b : Bool) → is_pair_size h.size ≡ b → cond b (reading_over (pairs_of h.size) last h ls >>= λ r. Ok (pair r)) (reading_over (residues h.size) last h ls >>= λ r. Ok (word r)) ≡ Ok (word r)
        → IsField (residues h.size) × (reading_over (residues h.size) last h ls ≡ Ok r)
    by true is k = let m = made_of pair (reading_over (pairs_of h.size) last h ls) (word r) k in let no : pair m.0 ≡ word r = m.2 in absurd cc
    by false is k =
        let m = made_of word (reading_over (residues h.size) last h ls) (word r) k in
        let no : word m.0 ≡ word r = m.2 in
        let same : m.0 ≡ r = cc in
        let listed : is_listed h.size ≡ true = ⊎_elim (λ l. l) (λ l. let both : true ≡ false = sym l ∙ is in absurd cc) (or_cases (is_listed h.size) (is_pair_size h.size) known) in
        (residues_field h.size listed, m.1 ∙ ap (λ (x : Reading ℕ). Ok x) same)

pub words : IsKind word_ops residues word
words = record {
  laws = λ f. residues_field f.modulus f.listed;
  known = λ f. listed_size f.modulus f.listed;
  field = λ f. refl;
  was = words_was;
  one = one_word_field;
  behind = λ f last h ls e. words_behind f.modulus last h ls f.listed e;
  same = λ r s e. cc;
}

-- ---- pairs

pair_size : (q : ℕ) → is_pair_size q ≡ true → is_size q ≡ true
pair_size q e = grind arith

pairs_behind : (f : PairField) (last : ℕ) (h : Head) (ls : List Line) → h.size ≡ f.prime * f.prime → reading_behind last h ls ≡ (reading_over (pair_ops f) last h ls >>= λ r. Ok (pair r))
unfolding reading_behind
pairs_behind f last h ls e =
    let yes : is_pair_size h.size ≡ true = ap is_pair_size e ∙ square_size f.prime f.square.low f.square.high f.chosen in
    let ops : pairs_of h.size ≡ pair_ops f = ap pairs_of e ∙ pairs_of_square f.prime f.square.low f.square.high f.chosen in
    rw yes (ap (λ (K : FieldOps Pair). reading_over K last h ls >>= λ r. Ok (pair r)) ops)

pairs_of_field : (q : ℕ) → is_pair_size q ≡ true → IsField (pairs_of q)
pairs_of_field q e = ⊎_elim (λ e. ⊎_elim (at 4 (pairs_field 2 1 1 refl)) (at 9 (pairs_field 3 2 0 refl)) (or_cases _ _ e)) (at 49 (pairs_field 7 6 0 refl)) (or_cases _ _ e)
  where
    at : (n : ℕ) → IsField (pairs_of n) → eqb q n ≡ true → IsField (pairs_of q)
    at n is h = subst (λ (x : ℕ). IsField (pairs_of x)) (sym (eqb-true q n h)) is

pairs_was : (last : ℕ) (h : Head) (ls : List Line) (r : Reading Pair) → is_size h.size ≡ true → reading_behind last h ls ≡ Ok (pair r) → IsField (pairs_of h.size) × (reading_over (pairs_of h.size) last h ls ≡ Ok r)
unfolding reading_behind
pairs_was last h ls r known e = by (is_pair_size h.size) refl e
  where
    by : (b : Bool) → is_pair_size h.size ≡ b → cond b (reading_over (pairs_of h.size) last h ls >>= λ r. Ok (pair r)) (reading_over (residues h.size) last h ls >>= λ r. Ok (word r)) ≡ Ok (pair r)
        → IsField (pairs_of h.size) × (reading_over (pairs_of h.size) last h ls ≡ Ok r)
    by true is k =
        let m = made_of pair (reading_over (pairs_of h.size) last h ls) (pair r) k in
        let no : pair m.0 ≡ pair r = m.2 in
        let same : m.0 ≡ r = cc in
        (pairs_of_field h.size is, m.1 ∙ ap (λ (x : Reading Pair). Ok x) same)
    by false is k = let m = made_of word (reading_over (residues h.size) last h ls) (pair r) k in let no : word m.0 ≡ pair r = m.2 in absurd cc

pub pairs_kind : IsKind pair_ops pairs_of pair
pairs_kind = record {
  laws = λ f. pairs_field f.prime f.square.low f.square.high f.chosen;
  known = λ f. pair_size (f.prime * f.prime) (square_size f.prime f.square.low f.square.high f.chosen);
  one = one_pair_field;
  field = λ f. pairs_of_square f.prime f.square.low f.square.high f.chosen;
  was = pairs_was;
  behind = pairs_behind;
  same = λ r s e. cc;
}
