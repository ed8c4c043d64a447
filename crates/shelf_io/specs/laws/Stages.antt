-- The stages of a program that writes names one after the other.
use Rattle.std.proofs.Common.{◌≡◌, ◌≤◌, ◌⊎◌, ◌+◌, ℕ, zero, suc, List, [], ◌∷◌, ◌++◌, length, Option, Some, Result, Ok, Err, refl, sym, ap, subst, ◌∙◌, inl, inr, arith}
use Rattle.std.proofs.lemmas.Option.{same_Some}
use Rattle.std.specs.FinMap as map
use Rattle.shelf_io.specs.Shelf.{Files, SameElsewhere, IsWritten}
use Rattle.shelf_io.specs.Moments.{IsHeld, IsHeldElsewhere}
use Rattle.shelf_io.specs.Stages.{Save, files_saved, IsAtStage, IsFromStage, Stays, Writes, Saves}
use Rattle.shelf_io.specs.laws.Moments.{later_same, later_then, known_later, adds_none, insert_elsewhere}
use Rattle.shelf_io.specs.declared.shelf.WriteFault.{WriteFault}
use Rattle.shelf_io.specs.declared.shelf.WriteFault.TheVariants.{Failed, Memory}

-- ---- stages

-- the files themselves are at the first stage
first_stage : (files : Files) (saves : List Save) → IsAtStage files saves 0 files
first_stage files [] = refl
first_stage files (save ∷ saves) = λ other not. refl

-- a stage of some saves is one of these and further ones
pub stage_of_more : (files : Files) (saves more : List Save) (count : ℕ) (found : Files)
    → IsAtStage files saves count found → IsAtStage files (saves ++ more) count found
stage_of_more files [] more zero found is = subst (IsAtStage files more 0) (sym is) (first_stage files more)
stage_of_more files [] more (suc count) found is = absurd is
stage_of_more files (save ∷ saves) more zero found is = is
stage_of_more files (save ∷ saves) more (suc count) found is = stage_of_more (map.insert files save.name save.bytes) saves more count found is

-- a stage of the saves that come after others
pub stage_after : (files : Files) (saves more : List Save) (count all : ℕ) (found : Files)
    → all ≡ length saves + count → IsAtStage (files_saved files saves) more count found
    → IsAtStage files (saves ++ more) all found
stage_after files [] more count all found e is =
    let same : count ≡ all = omega (arith, e) in
    subst (λ n. IsAtStage files more n found) same is
stage_after files (save ∷ saves) more count zero found e is = absurd (omega (arith, e))
stage_after files (save ∷ saves) more count (suc all) found e is =
    stage_after (map.insert files save.name save.bytes) saves more count all found (omega (arith, e)) is

-- while the name of one further save is written
stage_in_write : (files : Files) (saves : List Save) (save : Save) (found : Files)
    → SameElsewhere save.name (files_saved files saves) found → IsFromStage files (saves ++ save ∷ []) 0 found
stage_in_write files saves save found same =
    (length saves, omega arith, stage_after files saves (save ∷ []) 0 (length saves) found (omega arith) same)

module _ {S : Type 0} (holds : S → Option Files) (moment : S → Option ℕ) (may_be_found : S → ℕ → Files → Type 0) where
  abbrev Stay : S → S → Type 0
  Stay = Stays holds moment may_be_found

  abbrev Write : Result (Unit {0}) WriteFault → Save → S → S → Type 0
  Write = Writes holds moment may_be_found

  abbrev Made : List Save → S → S → Type 0
  Made = Saves holds moment may_be_found

  -- ---- a chain of calls

  pub stays_none : (s : S) → Stay s s
  stays_none s = record {
    same = refl;
    later = later_same (moment s);
    stops = adds_none (moment s) (may_be_found s) (IsHeld (holds s));
  }

  pub stays_then : (a b c : S) → Stay a b → Stay b c → Stay a c
  stays_then a b c p q = record {
    same = q.same ∙ p.same;
    later = later_then (moment a) (moment b) (moment c) p.later q.later;
    stops = record {
      only = λ start m found e le h.
          let mid = known_later (moment a) (moment b) start p.later e in
          elim (q.stops.only mid.0 m found mid.1 (omega (arith, le, mid.2)) h) [
            | inl before ↦ p.stops.only start m found e le before
            | inr now ↦ inr (subst (λ held. IsHeld held found) p.same now)
          ];
      all = λ start m found e le h.
          let mid = known_later (moment a) (moment b) start p.later e in
          q.stops.all mid.0 m found mid.1 (omega (arith, le, mid.2)) (p.stops.all start m found e le h);
    };
  }

  -- the chain goes on after a load
  pub saves_then_stays : (saves : List Save) (a b c : S) → Made saves a b → Stay b c → Made saves a c
  saves_then_stays [] a b c chain q = stays_then a b c chain q
  saves_then_stays (save ∷ saves) a b c chain q =
      (chain.0, chain.1, chain.2, chain.3, saves_then_stays saves chain.1 b c chain.4 q)

  -- the chain goes on by a save
  pub saves_then_write : (saves : List Save) (save : Save) (a b c : S) → Made saves a b → Write (Ok tt) save b c
      → Made (saves ++ save ∷ []) a c
  saves_then_write [] save a b c chain write = (b, c, chain, write, stays_none c)
  saves_then_write (x ∷ saves) save a b c chain write =
      (chain.0, chain.1, chain.2, chain.3, saves_then_write saves save chain.1 b c chain.4 write)

  -- ---- what is held, and what may be found

  -- known files at the end were known at the start, and are those after the saves
  pub held_after : (saves : List Save) (a b : S) (held : Files) → Made saves a b → holds b ≡ Some held
      → (files : Files) × (holds a ≡ Some files) × (held ≡ files_saved files saves)
  held_after [] a b held chain is = (held, sym chain.same ∙ is, refl)
  held_after (save ∷ saves) a b held chain is =
      let rest = held_after saves chain.1 b held chain.4 is in
      let written = chain.3.held rest.0 rest.1 in
      (written.0, sym chain.2.same ∙ written.1, rest.2 ∙ ap (λ files. files_saved files saves) written.2)

  -- From a moment before the chain on: what might have been found before it, or files at a stage.
  found_in : (saves : List Save) (a b : S) (files held : Files) (start m : ℕ) (found : Files) → Made saves a b
      → holds a ≡ Some files → holds b ≡ Some held
      → moment a ≡ Some start → m ≤ start → may_be_found b m found
      → may_be_found a m found ⊎ IsFromStage files saves 0 found
  found_in [] a b files held start m found chain first last at le h =
      elim (chain.stops.only start m found at le h) [
        | inl before ↦ inl before
        | inr now ↦ inr (0, omega arith, subst (λ o. IsHeld o found) first now)
      ]
  found_in (save ∷ saves) a b files held start m found chain first last at le h =
      let before_at = known_later (moment a) (moment chain.0) start chain.2.later at in
      let after_at = known_later (moment chain.0) (moment chain.1) before_at.0 chain.3.later before_at.1 in
      let before_holds : holds chain.0 ≡ Some files = chain.2.same ∙ first in
      let rest = held_after saves chain.1 b held chain.4 last in
      let written = chain.3.held rest.0 rest.1 in
      let same_old : written.0 ≡ files = same_Some _ _ (sym written.1 ∙ before_holds) in
      let after_is : rest.0 ≡ map.insert files save.name save.bytes = written.2 ∙ ap (λ f. map.insert f save.name save.bytes) same_old in
      elim (found_in saves chain.1 b rest.0 held after_at.0 m found chain.4 rest.1 last after_at.1 (omega (arith, le, before_at.2, after_at.2)) h) [
        | inr stage ↦ inr (suc stage.0, omega arith, subst (λ f. IsAtStage f saves stage.0 found) after_is stage.2)
        | inl after ↦ elim (chain.3.stops.only before_at.0 m found before_at.1 (omega (arith, le, before_at.2)) after) [
          | inr torn ↦ inr (0, omega arith, subst (λ o. IsHeldElsewhere save.name o found) before_holds torn)
          | inl before ↦ elim (chain.2.stops.only start m found at le before) [
            | inl old ↦ inl old
            | inr now ↦ inr (0, omega arith, subst (IsAtStage files (save ∷ saves) 0) (sym (subst (λ o. IsHeld o found) first now)) (first_stage files (save ∷ saves)))
          ]
        ]
      ]

  known_moment : (saves : List Save) (a b : S) (start : ℕ) → Made saves a b → moment a ≡ Some start
      → (now : ℕ) × (moment b ≡ Some now) × (start ≤ now)
  known_moment [] a b start chain at = known_later (moment a) (moment b) start chain.later at
  known_moment (save ∷ saves) a b start chain at =
      let before = known_later (moment a) (moment chain.0) start chain.2.later at in
      let after = known_later (moment chain.0) (moment chain.1) before.0 chain.3.later before.1 in
      let rest = known_moment saves chain.1 b after.0 chain.4 after.1 in
      (rest.0, rest.1, omega (arith, before.2, after.2, rest.2))

  -- between two calls a stop finds just the files held
  module _ (only_held : (s : S) (now : ℕ) (held found : Files) → moment s ≡ Some now → holds s ≡ Some held → may_be_found s now found → found ≡ held) where
    -- from the start on, files at a stage
    pub stages : (saves : List Save) (a b : S) (files held : Files) (start : ℕ) (found : Files) → Made saves a b
        → holds a ≡ Some files → holds b ≡ Some held
        → moment a ≡ Some start → may_be_found b start found → IsFromStage files saves 0 found
    stages saves a b files held start found chain first last at h =
        elim (found_in saves a b files held start start found chain first last at (omega arith) h) [
          | inr stage ↦ stage
          | inl before ↦ (0, omega arith, subst (IsAtStage files saves 0) (sym (only_held a start files found at first before)) (first_stage files saves))
        ]

    -- the same, if a write with any answer comes last
    pub stages_in_write : (saves : List Save) (save : Save) (result : Result (Unit {0}) WriteFault) (a b c : S) (files held : Files) (start : ℕ) (found : Files) → Made saves a b
        → Write result save b c → holds a ≡ Some files → holds c ≡ Some held → moment a ≡ Some start
        → may_be_found c start found → IsFromStage files (saves ++ save ∷ []) 0 found
    stages_in_write saves save result a b c files held start found chain write first last at h =
        let mid = write.held held last in
        let known = held_after saves a b mid.0 chain mid.1 in
        let mid_is : mid.0 ≡ files_saved files saves = known.2 ∙ ap (λ f. files_saved f saves) (same_Some _ _ (sym known.1 ∙ first)) in
        let mid_at = known_moment saves a b start chain at in
        elim (write.stops.only mid_at.0 start found mid_at.1 mid_at.2 h) [
          | inl before ↦
              let stage = stages saves a b files mid.0 start found chain first mid.1 at before in
              (stage.0, stage.1, stage_of_more files saves (save ∷ []) stage.0 found stage.2)
          | inr torn ↦ stage_in_write files saves save found (subst (λ f. SameElsewhere save.name f found) mid_is (subst (λ o. IsHeldElsewhere save.name o found) mid.1 torn))
        ]

  -- what a write with any answer leaves of the files agrees with them elsewhere
  same_elsewhere : (result : Result (Unit {0}) WriteFault) (name bytes : List ℕ) (old new : Files)
      → IsWritten result name bytes old new → SameElsewhere name old new
  same_elsewhere (Ok _) name bytes old new is = subst (SameElsewhere name old) (sym is) (insert_elsewhere old name bytes)
  same_elsewhere (Err Failed) name bytes old new is = is
  same_elsewhere (Err Memory) name bytes old new is = subst (SameElsewhere name old) (sym is) (λ other not. refl)

  -- the files held after a write with any answer are at a stage too
  pub held_in_write : (saves : List Save) (save : Save) (result : Result (Unit {0}) WriteFault) (a b c : S) (files held : Files)
      → Made saves a b → Write result save b c → holds a ≡ Some files → holds c ≡ Some held
      → IsFromStage files (saves ++ save ∷ []) (length saves) held
  held_in_write saves save result a b c files held chain write first last =
      let mid = write.held held last in
      let known = held_after saves a b mid.0 chain mid.1 in
      let mid_is : mid.0 ≡ files_saved files saves =
      known.2 ∙ ap (λ f. files_saved f saves) (same_Some _ _ (sym known.1 ∙ first)) in
      let same : SameElsewhere save.name (files_saved files saves) held =
      subst (λ f. SameElsewhere save.name f held) mid_is (same_elsewhere result save.name save.bytes mid.0 held mid.2) in
      (length saves, omega arith, stage_after files saves (save ∷ []) 0 (length saves) held (omega arith) same)
