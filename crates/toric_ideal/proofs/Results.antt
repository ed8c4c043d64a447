-- Results of tests and of calls.
use Rattle.std.proofs.Common.{◌≡◌, Bool, true, false}
use Rattle.std.specs.Prelude.{IfOk, Result, Ok, Err}

pub no_from : {P : Type 0} (b : Bool) → (P → b ≡ true) → b ≡ false → P → ⊥
no_from b h f p = let t = h p in cc

pub not_true : false ≡ true → ⊥
not_true h = cc

pub if_ok_three : {A E : Type 0} (r : Result A E) (P Q R S : A → Type 0) → ((x : A) → P x → Q x → R x → S x) → IfOk r P → IfOk r Q → IfOk r R → IfOk r S
if_ok_three (Ok x) P Q R S f p q k = f x p q k
if_ok_three (Err e) P Q R S f p q k = p
