-- What a sink takes of a text that is put piece by piece.
use Rattle.std.proofs.Common.{◌≡◌, ℕ, ◌-◌, ◌≤◌, length, take, drop, length-drop, inl, inr, true, false, ltb, List, [], ◌++◌, Option, Result, Ok, Err, refl, sym, ap, ◌∙◌, append_assoc, arith}
use Rattle.std.proofs.lemmas.List.{append-nil, take-append-drop}
use Rattle.std.proofs.Math.Seq.{take-length}
use Rattle.std.proofs.lemmas.Bool.{ltb-true, ltb-false}
use Rattle.shelf_io.specs.Sink.{Continues}
use Rattle.shelf_io.specs.Counts.{HasRisen}
use Rattle.shelf_io.specs.declared.sink.SinkFailed.{SinkFailed}
use Rattle.sagbi_cli.specs.SinkChange.{SinkChange, change, HasFailed, TakesWhole, TakesFront, TakesOrFails, Takes}

pub continues-nil : (a : Option (List ℕ)) → Continues a [] a
continues-nil a = record { known = λ all e. (all, e, sym (append-nil all)) }

pub continues-append : (a b d : Option (List ℕ)) (xs ys : List ℕ) → Continues a xs b → Continues b ys d → Continues a (xs ++ ys) d
continues-append a b d xs ys p q = record {
  known = λ all e.
      let s = q.known all e in
      let r = p.known s.0 s.1 in
      (r.0, r.1, s.2 ∙ (ap (λ (l : List ℕ). l ++ ys) r.2 ∙ append_assoc r.0 xs ys));
}

-- what rose within a call rose in the whole call
risen-within : (a b c : ℕ) → a ≤ b → b ≤ c → HasRisen b c → HasRisen a c
risen-within a b c ab bc (inl lt) = inl (omega arith)
risen-within a b c ab bc (inr last) =
    elim (ltb a c) as (λ t. ltb a c ≡ t → HasRisen a c) [
      | true ↦ λ e. inl (ltb-true a c e)
      | false ↦ λ e. let le : c ≤ a = ltb-false a c e in inr (omega arith)
    ] refl

-- a front of a text is one of a longer text
pub front-append : (xs ys : List ℕ) (p : SinkChange) → TakesFront xs p → TakesFront (xs ++ ys) p
front-append xs ys p h = record {
  front = h.front;
  rest = h.rest ++ ys;
  is = ap (λ (l : List ℕ). l ++ ys) h.is ∙ append_assoc h.front h.rest ys;
  taken = h.taken;
}

-- a text that was not taken whole, with one behind it
pub takes-before : (e : SinkFailed) (xs ys : List ℕ) (p : SinkChange) → Takes (Err e) xs p → Takes (Err e) (xs ++ ys) p
takes-before e xs ys p h = (front-append xs ys p h.0, h.1)

-- what is taken of the rest comes after what was taken before
pub split-rest : (text front rest : List ℕ) (n : ℕ) → text ≡ front ++ rest → text ≡ (front ++ take n rest) ++ take (length rest - n) (drop n rest)
split-rest text front rest n is =
    let all : take (length rest - n) (drop n rest) ≡ drop n rest = rw (← length-drop n rest) (take-length (drop n rest)) in
    is ∙ (ap (λ (l : List ℕ). front ++ l) (sym (take-append-drop n rest)) ∙ (sym (append_assoc front (take n rest) (drop n rest)) ∙ ap (λ (l : List ℕ). (front ++ take n rest) ++ l) (sym all)))

pub takes_or_fails : (r : Result (Unit {0}) SinkFailed) (text : List ℕ) (p : SinkChange) → Takes r text p → TakesOrFails text p
takes_or_fails (Ok u) text p h = inl h
takes_or_fails (Err e) text p h = inr h

module _ {S : Type 0} (taken : S → Option (List ℕ)) (faults : S → ℕ) where
  pub front-none : (text : List ℕ) (s : S) → TakesFront text (change taken faults s s)
  front-none text s = record { front = []; rest = text; is = refl; taken = continues-nil (taken s) }

  pub front-after : (xs ys : List ℕ) (s t u : S) → TakesWhole xs (change taken faults s t) → TakesFront ys (change taken faults t u) → TakesFront (xs ++ ys) (change taken faults s u)
  front-after xs ys s t u p q = record {
    front = xs ++ q.front;
    rest = q.rest;
    is = ap (λ (l : List ℕ). xs ++ l) q.is ∙ sym (append_assoc xs q.front q.rest);
    taken = continues-append (taken s) (taken t) (taken u) xs q.front p q.taken;
  }

  pub failed-after : (s t u : S) → faults s ≤ faults t → faults t ≤ faults u → HasFailed (change taken faults t u) → HasFailed (change taken faults s u)
  failed-after s t u st tu h = risen-within (faults s) (faults t) (faults u) st tu h

  -- a text after one that was taken whole
  pub takes-after : (r : Result (Unit {0}) SinkFailed) (xs ys : List ℕ) (s t u : S) → faults s ≤ faults t → faults t ≤ faults u
      → TakesWhole xs (change taken faults s t) → Takes r ys (change taken faults t u) → Takes r (xs ++ ys) (change taken faults s u)
  takes-after (Ok v) xs ys s t u st tu p q = continues-append (taken s) (taken t) (taken u) xs ys p q
  takes-after (Err e) xs ys s t u st tu p q = (front-after xs ys s t u p q.0, failed-after s t u st tu q.1)
