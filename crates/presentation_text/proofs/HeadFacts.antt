-- What is known of the names and weights that were read.
use Rattle.std.proofs.Common.{◌≡◌, ℕ, Bool, true, false, cond, leb, List, [], ◌∷◌, length, Option, Some, None, Ok, Err, refl, sym, subst, ◌∙◌}
use Rattle.std.specs.List.{list_all, AllByRecursion}
use Rattle.std.proofs.lemmas.List.Elements.{All-from_recursion}
use Rattle.std.proofs.lemmas.Bool.{and_parts, leb-true}
use Rattle.poly_core.specs.Names.{IsName, IsNameList, has_name_form}
use Rattle.presentation_text.specs.declared.text_kind.TextKind.TheVariants.{DuplicateName, VarsLine}
use Rattle.presentation_text.specs.Lines.{tokens}
use Rattle.presentation_text.specs.Heading.{name_max, is_name, are_different, names_of, vars_line}
use Rattle.presentation_text.specs.Reading.{Line, next}
use Rattle.presentation_text.proofs.NameTokens.{HaveForm, names_form, are_distinct}
use Rattle.presentation_text.proofs.NextLines.{next_was}

each_name : (names : List (List ℕ)) → list_all is_name names ≡ true → AllByRecursion IsName names
each_name [] e = tt
each_name (n ∷ names) e =
    let h = and_parts (is_name n) (list_all is_name names) e in
    let k = and_parts (has_name_form n) (leb (length n) name_max) h.0 in
    (record { form = k.0; short = leb-true _ _ k.1 }, each_name names h.1)

name_list : (names : List (List ℕ)) → HaveForm names → are_different names ≡ true → IsNameList (length names) names
name_list names form differ = record {
  each_place = refl;
  some = form.some;
  few = form.few;
  distinct = are_distinct names differ;
  each = All-from_recursion IsName names (each_name names form.each);
}

vars_fit : (line : List ℕ) (names : List (List ℕ)) → vars_line line ≡ Ok names → IsNameList (length names) names
unfolding vars_line
vars_fit line names e = judged (names_of (tokens line)) refl e
  where
    chosen : (ns : List (List ℕ)) (b : Bool) → are_different ns ≡ b → HaveForm ns → cond b (Ok ns) (Err DuplicateName) ≡ Ok names → IsNameList (length names) names
    chosen ns false differ form h = absurd cc
    chosen ns true differ form h = let same : ns ≡ names = cc in subst (λ (l : List (List ℕ)). IsNameList (length l) l) same (name_list ns form differ)

    judged : (r : Option (List (List ℕ))) → names_of (tokens line) ≡ r → vars_line line ≡ Ok names → IsNameList (length names) names
    judged None is h = let failed : vars_line line ≡ Err VarsLine = rw is refl in let both : Err VarsLine ≡ Ok names = sym failed ∙ h in absurd cc
    judged (Some ns) is h =
        let one : vars_line line ≡ cond (are_different ns) (Ok ns) (Err DuplicateName) = rw is refl in
        chosen ns (are_different ns) refl (names_form (tokens line) ns is) (sym one ∙ h)

pub vars_read : (last : ℕ) (ls : List Line) (x : List (List ℕ) × List Line) → next last vars_line ls ≡ Ok x → IsNameList (length x.0) x.0
vars_read last ls x e = let w = next_was vars_line last ls x e in vars_fit w.0 x.0 w.1
