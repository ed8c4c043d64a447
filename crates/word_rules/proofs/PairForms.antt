-- Normal forms of the members of a critical pair.
use Rattle.std.proofs.Common.{◌≡◌, ◌≢◌, ℕ, zero, suc, refl, sym, ◌∙◌, ap, subst, List, [], ◌∷◌, length, arith, Some, None}
use Rattle.std.specs.Prelude.{Option, IfSome}
use Rattle.std.proofs.lemmas.Option.{same_Some}
use Rattle.monomial_order.specs.Monomial.{exponent, least_common_multiple}
use Rattle.monomial_order.specs.laws.Monomial.{least_common_multiple_comm}
use Rattle.word_rewriting.specs.Rewriting.{RewriteRule, RewritesBy, WordOrZero}
use Rattle.word_rules.specs.Rules.{ArePairForms, IsFormAfter}
use Rattle.word_rules.specs.Trimmed.{trim, trimmed}
use Rattle.word_rules.proofs.Trimming.{exponent-trim}

pub pair_forms : (R : List RewriteRule) (r s : RewriteRule) (u v : WordOrZero) → IsFormAfter R r (least_common_multiple r.left s.left) u →
    IsFormAfter R s (least_common_multiple s.left r.left) v → ArePairForms R r s u v
pair_forms R r s u v f g = record {
  first = f.result;
  second = g.result;
  pair = (f.by, subst (λ m. RewritesBy s m g.result) (least_common_multiple_comm s.left r.left) g.by);
  first_form = f.form;
  second_form = g.form;
}

same_places : (w v : List ℕ) → length w ≡ length v → ((p : ℕ) → exponent w p ≡ exponent v p) → w ≡ v
same_places [] [] e h = refl
same_places [] (b ∷ v) e h = absurd (omega arith)
same_places (a ∷ w) [] e h = absurd (omega arith)
same_places (a ∷ w) (b ∷ v) e h = ap (λ x. x ∷ w) (h zero) ∙ ap (λ x. b ∷ x) (same_places w v (omega arith) (λ p. h (suc p)))

same_trim : (w v : List ℕ) → length w ≡ length v → trim w ≡ trim v → w ≡ v
same_trim w v e h = same_places w v e (λ p. sym (exponent-trim w p) ∙ (ap (λ m. exponent m p) h ∙ exponent-trim v p))

-- words of the same number of places, or zeros, are different without the zeros at their end too
pub trimmed_different : (n : ℕ) (u v : Option (List ℕ)) → IfSome u (λ w. length w ≡ n) → IfSome v (λ w. length w ≡ n) → u ≢ v → trimmed u ≢ trimmed v
trimmed_different n None None lu lv d e = d refl
trimmed_different n None (Some w) lu lv d e = absurd (cc e)
trimmed_different n (Some w) None lu lv d e = absurd (cc e)
trimmed_different n (Some w) (Some x) lu lv d e = d (ap Some (same_trim w x (lu ∙ sym lv) (same_Some (trim w) (trim x) e)))
