-- Steps that did not fail.
use Rattle.std.proofs.Common.{◌≡◌, Bool, true, false, cond, Result, Ok, Err, refl}
use Rattle.polynomial_text.specs.Results.{◌>>=◌}

-- the value of a step that did not fail
pub step_ok : {A B G : Type 0} (r : Result A G) (f : A → Result B G) (y : B) → (r >>= f) ≡ Ok y → (x : A) × (r ≡ Ok x) × (f x ≡ Ok y)
step_ok (Ok x) f y e = (x, refl, e)
step_ok (Err g) f y e = absurd cc

pub chosen : {A G : Type 0} (b : Bool) (r : Result A G) (g : G) (y : A) → cond b r (Err g) ≡ Ok y → (b ≡ true) × (r ≡ Ok y)
chosen true r g y e = (refl, e)
chosen false r g y e = absurd cc

pub same_ok : {A G : Type 0} (x y : A) → ◌≡◌ {A = Result A G} (Ok x) (Ok y) → x ≡ y
same_ok x y e = cc
