use Rattle.std.proofs.Common.{◌≡◌, ◌≤◌, ◌<◌, ℕ, ◌++◌, ◌∙◌, sym, ap, arith, length, subst, drop, take, List}
use Rattle.std.specs.Prelude.{Contains}
use Rattle.std.proofs.lemmas.List.{length-drop}
use Rattle.monomial_order.specs.MonomialOrder.{IsIncreasing}
use Rattle.monomial_order.specs.Orders.{word_order}
use Rattle.word_laws.specs.Words.{word_order_of}
use Rattle.word_rules.specs.Rules.{rule_at}
use Rattle.toric_ideal.specs.Alphabet.{letters_of}
use Rattle.toric_ideal.specs.SortedRules.{words_of}
use Rattle.toric_ideal.proofs.LetterLemmas.{alphabet_order}
use Rattle.toric_ideal.specs.Increasing.{AreComparable, IsSorted}
use Rattle.toric_ideal.specs.Settling.{AreNewLetters, CanRenumber, HaveNewSides, IsNewSide}
use Rattle.toric_ideal.specs.Renaming.{AreWithin}
use Rattle.toric_ideal.specs.Rewriting.{rewrite_rules}
use Rattle.toric_ideal.specs.declared.rule.Rule.{Rule}
use Rattle.toric_ideal.proofs.NewSides.{letters_set, letters_within}
use Rattle.toric_ideal.proofs.Renamings.{rewrite_length}
use Rattle.toric_ideal.proofs.SettledListings.{can_renumber, leads_comparable, listing_settled, rule_sides, same_rules, settled_alphabet, lower_in_list, lower_in_table, settled_is, settled_lower, settled_parted, settled_queued, settled_standard, settled_within, table_sides}
use Rattle.toric_ideal.proofs.completion.Completion.settle.Goals as goal

pub sorted-requires : goal.sorted-requires
sorted-requires g c =
    let w = c.args.self.now in
    subst (AreComparable (g.O.Order.order c.args.o.now)) (sym (c.split_at.ensures.back ∙ ap (drop w.settled_count) c.as_slice.ensures.value))
    (leads_comparable (g.O.Order.order c.args.o.now) w.alphabet.order.x_degrees.items w.alphabet.leads.items w.settled_count (g.met.O.Order.laws c.args.o.now) c.requires.order c.requires.sound.listing.leads)

pub table_letters-requires-clause-leads : goal.table_letters-requires-clause-leads
table_letters-requires-clause-leads g c =
    let w = c.args.self.now in
    let O = g.O.Order.order c.args.o.now in
    let after = c.in_ok-last.last.items in
    let p : IsSorted O (drop w.settled_count w.alphabet.leads.items) after =
    subst (λ ls. IsSorted O ls after) (c.split_at.ensures.back ∙ ap (drop w.settled_count) c.as_slice.ensures.value) c.in_ok-last.ensures in
    subst (CanRenumber w.alphabet w.settled_count) (sym c.as_slice-leads.ensures.value) (can_renumber O (g.met.O.Order.laws c.args.o.now) w c.requires.sound after p)

pub table_letters-requires-clause-sides : goal.table_letters-requires-clause-sides
table_letters-requires-clause-sides g c =
    let w = c.args.self.now in
    let O = g.O.Order.order c.args.o.now in
    let after = c.in_ok-last.last.items in
    let p : IsSorted O (drop w.settled_count w.alphabet.leads.items) after =
    subst (λ ls. IsSorted O ls after) (c.split_at.ensures.back ∙ ap (drop w.settled_count) c.as_slice.ensures.value) c.in_ok-last.ensures in
    table_sides O (g.met.O.Order.laws c.args.o.now) w c.requires.sound after p

pub list_letters-requires-clause-leads : goal.list_letters-requires-clause-leads
list_letters-requires-clause-leads g c =
    let w = c.args.self.now in
    let O = g.O.Order.order c.args.o.now in
    let after = c.in_ok-last.last.items in
    let p : IsSorted O (drop w.settled_count w.alphabet.leads.items) after =
    subst (λ ls. IsSorted O ls after) (c.split_at.ensures.back ∙ ap (drop w.settled_count) c.as_slice.ensures.value) c.in_ok-last.ensures in
    subst (CanRenumber w.alphabet w.settled_count) (sym c.as_slice-leads.ensures.value) (can_renumber O (g.met.O.Order.laws c.args.o.now) w c.requires.sound after p)

pub list_letters-requires-clause-sides : goal.list_letters-requires-clause-sides
list_letters-requires-clause-sides g c =
    let w = c.args.self.now in
    let O = g.O.Order.order c.args.o.now in
    let after = c.in_ok-last.last.items in
    let p : IsSorted O (drop w.settled_count w.alphabet.leads.items) after =
    subst (λ ls. IsSorted O ls after) (c.split_at.ensures.back ∙ ap (drop w.settled_count) c.as_slice.ensures.value) c.in_ok-last.ensures in
    λ r h. rule_sides O (g.met.O.Order.laws c.args.o.now) w c.requires.sound after p r (subst (λ (rs : List Rule). Contains rs r) c.as_slice-rules.ensures.value h)

pub table_letters-requires-clause-lower : goal.table_letters-requires-clause-lower
table_letters-requires-clause-lower g c =
    let w = c.args.self.now in
    let O = g.O.Order.order c.args.o.now in
    let after = c.in_ok-last.last.items in
    let p : IsSorted O (drop w.settled_count w.alphabet.leads.items) after =
    subst (λ ls. IsSorted O ls after) (c.split_at.ensures.back ∙ ap (drop w.settled_count) c.as_slice.ensures.value) c.in_ok-last.ensures in
    subst (λ ls. (i : ℕ) → i < w.lower_rules → IsNewSide w.alphabet w.settled_count ls (rule_at w.table i).right (rule_at w.table i).right) (sym c.as_slice-leads.ensures.value)
    (lower_in_table O (g.met.O.Order.laws c.args.o.now) w c.requires.sound after p)

pub first_of_degree-from-requires-clause-increasing : goal.first_of_degree-from-requires-clause-increasing
first_of_degree-from-requires-clause-increasing g c =
    let w = c.args.self.now in
    subst (λ P. IsIncreasing P (words_of c.as_slice-rules.result.now)) (sym (alphabet_order w.alphabet c.requires.sound.alphabet))
    (subst (λ (rs : List Rule). IsIncreasing (word_order_of (letters_of w.alphabet)) (words_of rs)) (sym c.as_slice-rules.ensures.value) c.requires.sound.listing.rules.increasing)

pub list_letters-requires-clause-lower : goal.list_letters-requires-clause-lower
list_letters-requires-clause-lower g c =
    let w = c.args.self.now in
    let s = c.requires.sound in
    let O = g.O.Order.order c.args.o.now in
    let after = c.in_ok-last.last.items in
    let p : IsSorted O (drop w.settled_count w.alphabet.leads.items) after =
    subst (λ ls. IsSorted O ls after) (c.split_at.ensures.back ∙ ap (drop w.settled_count) c.as_slice.ensures.value) c.in_ok-last.ensures in
    let n = c.first_of_degree-from.result in
    let a : (i : ℕ) → i < n → (word_order_of (letters_of w.alphabet)).degree (rule_at (rewrite_rules w.rules.items) i).left < w.degree =
    subst (λ P. (i : ℕ) → i < n → P.degree (rule_at (rewrite_rules w.rules.items) i).left < w.degree) (alphabet_order w.alphabet s.alphabet)
    (subst (λ (rs : List Rule). (i : ℕ) → i < n → (word_order w.alphabet.order.x_degrees.items w.alphabet.order.s_degrees.items).degree (rule_at (rewrite_rules rs) i).left < w.degree)
    c.as_slice-rules.ensures.value c.first_of_degree-from.ensures.lower) in
    let b : n ≤ length w.rules.items = subst (λ (rs : List Rule). n ≤ length rs) c.as_slice-rules.ensures.value c.first_of_degree-from.ensures.within in
    subst (λ (rs : List Rule). (i : ℕ) → i < n → IsNewSide w.alphabet w.settled_count c.as_slice-leads.result.now (rule_at (rewrite_rules rs) i).right (rule_at (rewrite_rules rs) i).right)
    (sym c.as_slice-rules.ensures.value)
    (subst (λ ls. (i : ℕ) → i < n → IsNewSide w.alphabet w.settled_count ls (rule_at (rewrite_rules w.rules.items) i).right (rule_at (rewrite_rules w.rules.items) i).right)
    (sym c.as_slice-leads.ensures.value) (lower_in_list O (g.met.O.Order.laws c.args.o.now) w s after p n b a))

pub rename_table-requires : goal.rename_table-requires
rename_table-requires g c =
    let w = c.args.self.now in
    letters_within w.alphabet w.settled_count c.as_slice-leads.result.now w.table c.in_ok-in_table.in_table.items c.in_ok-in_table.ensures

pub rename_rules-requires : goal.rename_rules-requires
rename_rules-requires g c =
    let w = c.args.self.now in
    let after = c.in_ok-last.last.items in
    let n = rewrite_length w.rules.items in
    let hl : AreNewLetters w.alphabet w.settled_count after (rewrite_rules w.rules.items) (length (rewrite_rules w.rules.items)) c.in_ok-in_list.in_list.items =
    subst (λ m. AreNewLetters w.alphabet w.settled_count after (rewrite_rules w.rules.items) m c.in_ok-in_list.in_list.items) (sym n)
    (subst (λ ls. AreNewLetters w.alphabet w.settled_count ls (rewrite_rules w.rules.items) (length w.rules.items) c.in_ok-in_list.in_list.items) c.as_slice-leads.ensures.value
    (subst (λ (rs : List Rule). AreNewLetters w.alphabet w.settled_count c.as_slice-leads.result.now (rewrite_rules rs) (length rs) c.in_ok-in_list.in_list.items) c.as_slice-rules.ensures.value c.in_ok-in_list.ensures)) in
    subst (λ m. AreWithin m c.in_ok-in_list.in_list.items) n (letters_within w.alphabet w.settled_count after (rewrite_rules w.rules.items) c.in_ok-in_list.in_list.items hl)

pub replace_last-requires : goal.replace_last-requires
replace_last-requires g c =
    let w = c.args.self.now in
    let O = g.O.Order.order c.args.o.now in
    let after = c.in_ok-last.last.items in
    let p : IsSorted O (drop w.settled_count w.alphabet.leads.items) after =
    subst (λ ls. IsSorted O ls after) (c.split_at.ensures.back ∙ ap (drop w.settled_count) c.as_slice.ensures.value) c.in_ok-last.ensures in
    let r = can_renumber O (g.met.O.Order.laws c.args.o.now) w c.requires.sound after p in
    let a = r.number in
    let b = r.within in
    let d = length-drop w.settled_count w.alphabet.leads.items in
    omega arith

pub returns-clause-settled : goal.returns-clause-settled
returns-clause-settled g c =
    let w = c.args.self.now in
    let O = g.O.Order.order c.args.o.now in
    let after = c.in_ok-last.last.items in
    let p : IsSorted O (drop w.settled_count w.alphabet.leads.items) after =
    subst (λ ls. IsSorted O ls after) (c.split_at.ensures.back ∙ ap (drop w.settled_count) c.as_slice.ensures.value) c.in_ok-last.ensures in
    settled_is O (g.met.O.Order.laws c.args.o.now) w c.requires.sound after p c.replace_last.new.leads.items c.replace_last.ensures

pub returns-clause-sound : goal.returns-clause-sound
returns-clause-sound g c =
    let w = c.args.self.now in
    let O = g.O.Order.order c.args.o.now in
    let after = c.in_ok-last.last.items in
    let p : IsSorted O (drop w.settled_count w.alphabet.leads.items) after =
    subst (λ ls. IsSorted O ls after) (c.split_at.ensures.back ∙ ap (drop w.settled_count) c.as_slice.ensures.value) c.in_ok-last.ensures in
    let W = g.met.O.Order.laws c.args.o.now in
    let s = c.requires.sound in
    let new = c.replace_last.new.leads.items in
    let e : new ≡ take w.settled_count w.alphabet.leads.items ++ after = c.replace_last.ensures in
    let T = c.rename_table.new.table in
    let rules = c.rename_rules.new.rules.items in
    let hs : AreNewLetters w.alphabet w.settled_count after w.table (length w.table) c.in_ok-in_table.in_table.items =
    subst (λ ls. AreNewLetters w.alphabet w.settled_count ls w.table (length w.table) c.in_ok-in_table.in_table.items) c.as_slice-leads.ensures.value c.in_ok-in_table.ensures in
    let n = rewrite_length w.rules.items in
    let hl : AreNewLetters w.alphabet w.settled_count after (rewrite_rules w.rules.items) (length (rewrite_rules w.rules.items)) c.in_ok-in_list.in_list.items =
    subst (λ m. AreNewLetters w.alphabet w.settled_count after (rewrite_rules w.rules.items) m c.in_ok-in_list.in_list.items) (sym n)
    (subst (λ ls. AreNewLetters w.alphabet w.settled_count ls (rewrite_rules w.rules.items) (length w.rules.items) c.in_ok-in_list.in_list.items) c.as_slice-leads.ensures.value
    (subst (λ (rs : List Rule). AreNewLetters w.alphabet w.settled_count c.as_slice-leads.result.now (rewrite_rules rs) (length rs) c.in_ok-in_list.in_list.items) c.as_slice-rules.ensures.value c.in_ok-in_list.ensures)) in
    let ht : HaveNewSides w.alphabet w.settled_count after w.table T = letters_set w.alphabet w.settled_count after w.table T c.in_ok-in_table.in_table.items hs c.rename_table.ensures in
    let hr : HaveNewSides w.alphabet w.settled_count after (rewrite_rules w.rules.items) (rewrite_rules rules) =
    letters_set w.alphabet w.settled_count after (rewrite_rules w.rules.items) (rewrite_rules rules) c.in_ok-in_list.in_list.items hl c.rename_rules.ensures in
    let a = settled_alphabet O W w s after p new e s.alphabet in
    record {
      alphabet = record { are_leads = a.1; lead_degrees = a.0 };
      listing = listing_settled O W w s after p T rules ht hr new e;
      same = same_rules O W w s after p T rules ht hr;
      queued = settled_queued O W w s after p new e T ht;
      within = settled_within O W w s after p new e;
      parted = settled_parted O W w s after p new e;
      lower = settled_lower O W w s after p new e T ht;
      standard = settled_standard O W w s after p new e;
    }
