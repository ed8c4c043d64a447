-- Counted calls, of which some fail.
use Rattle.std.specs.Prelude.{ℕ, ◌==◌, ◌||◌, nat_le, Bool, false, List, [], ◌∷◌, ◌++◌, Option, Some, None, if◌then◌else◌}
use Rattle.std.specs.List.{list_any}
use Rattle.std.specs.Option.{option_map_or}
use Rattle.shelf_io.specs.Counts.{raised}
use Rattle.shelf_io.specs.declared.calls.Calls.{Calls}

-- How many calls were made, and how often a call has failed. The numbers of single calls that fail; and the number of
-- the stop, if there is one, from which on all calls fail.
pub record Tally : Type 0 where
  pub made : ℕ
  pub failing : List ℕ
  pub stop : Option ℕ
  pub faults : ℕ

abbrev pub tally : Calls → Tally
tally calls = record { made = calls.made; failing = calls.failing.items; stop = calls.stop; faults = calls.faults }

abbrev pub no_calls : Tally
no_calls = record { made = 0; failing = []; stop = None; faults = 0 }

-- the call of this number is to fail too
abbrev pub with_failing : Tally → ℕ → Tally
with_failing t call = record t { failing = t.failing ++ call ∷ [] }

-- the call of this number is the stop
abbrev pub with_stop : Tally → ℕ → Tally
with_stop t call = record t { stop = Some call }

-- the number of the next call, counted from 1, is that of the stop
abbrev pub is_stop : Tally → Bool
is_stop t = option_map_or (λ call. call == raised t.made) t.stop false

-- the number of the next call is that of the stop or above
abbrev pub is_stopped : Tally → Bool
is_stopped t = option_map_or (λ call. nat_le call (raised t.made)) t.stop false

-- the next call fails
abbrev pub next_fails : Tally → Bool
next_fails t = list_any (λ call. call == raised t.made) t.failing || is_stopped t

-- A call was made. The count of faults is raised if it fails, and only then.
abbrev pub after_call : Tally → Tally
after_call t = record t {
  made = raised t.made;
  faults = (if next_fails t then raised t.faults else t.faults);
}
