-- Steps that may fail: the first fault ends them.
use Rattle.std.specs.Prelude.{List, [], ◌∷◌, Result, Ok, Err}

infixl 10 ◌>>=◌
abbrev pub ◌>>=◌ : {A B F : Type 0} → Result A F → (A → Result B F) → Result B F
(Ok x) >>= f = f x
(Err e) >>= f = Err e

-- what a step makes of a state along a list; the first fault ends it
unfoldable pub along : {S X F : Type 0} → (S → X → Result S F) → S → List X → Result S F
along step state [] = Ok state
along step state (x ∷ xs) = step state x >>= λ next. along step next xs

-- what is made of each member; the first fault ends it
unfoldable pub each : {A X F : Type 0} → (X → Result A F) → List X → Result (List A) F
each f [] = Ok []
each f (x ∷ xs) = do
  a ← f x
  others ← each f xs
  Ok (a ∷ others)
