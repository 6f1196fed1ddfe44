-- Steps on a table of words that several seats step on: what a step has to show of the account.
use Rattle.std.proofs.Common.{ℕ, ◌≡◌, ◌≢◌, ◌⊎◌, inl, inr, List, get_or, set, subst, sym}
use mathlib.Core.Option.{some}
use lib.ListN.{get_elem?}
use lib.Seq.{set-get_or}
use Rattle.atomic_table.specs.Table.{Me, keeps, Allows}
use Rattle.atomic_table.proofs.Lists.{at_set}
use Rattle.fl_ring.specs.SharedTable.{Accounted}

module _ {V C : Type 0} (Fits : C → ℕ → V → Type 0) (Holds : List ℕ → C → Type 0) where
  -- a seat's step: the account after it, with the seat's view, the words and what the step tells
  pub record Moves (c : C) (id : ℕ) (words : List ℕ) (Then : V → Type 0) : Type 0 where
    pub account : C
    pub view : V
    pub mine : Fits account id view
    pub others : (j : ℕ) (u : V) → j ≢ id → Fits c j u → Fits account j u
    pub holds : Holds words account
    pub tells : Then view

  seats_after : (c c' : C) (id : ℕ) (views : List V) (v : V) → ((j : ℕ) (u : V) → get_elem? views j ≡ some u → Fits c j u) → Fits c' id v → ((j : ℕ) (u : V) → j ≢ id → Fits c j u → Fits c' j u)
      → (j : ℕ) (u : V) → ((j ≡ id) × (v ≡ u)) ⊎ ((j ≢ id) × (get_elem? views j ≡ some u)) → Fits c' j u
  seats_after c c' id views v seats mine others j u (inl (e, d)) = subst (λ (x : ℕ). Fits c' x u) (sym e) (subst (λ (x : V). Fits c' id x) d mine)
  seats_after c c' id views v seats mine others j u (inr (ne, at)) = others j u ne (seats j u at)

  pub allows_by : {S : Type 0} (slots id i : ℕ) (me : Me S V) (f : ℕ → ℕ) (then : ℕ → Me S V → Type 0)
      → ((ws : List ℕ) (c : C) → Fits c id me.0 → Holds ws c → Moves c id (set ws i (f (get_or ws i 0))) (λ v. then (get_or ws i 0) (v, me.1)))
      → Allows (Accounted Fits Holds) slots id me i f then
  allows_by slots id i me f then go s rule deep at small =
      let m = go s.words rule.account (rule.seats id me.0 at) rule.holds in (
        m.view,
        keeps,
        tt,
        record { account = m.account; seats = λ j u e. seats_after rule.account m.account id s.views m.view rule.seats m.mine m.others j u (at_set s.views id j m.view u e); holds = m.holds },
        m.tells,
      )

  -- a load leaves the words
  pub allows_load : {S : Type 0} (slots id i : ℕ) (me : Me S V) (then : ℕ → Me S V → Type 0)
      → ((ws : List ℕ) (c : C) → Fits c id me.0 → Holds ws c → Moves c id ws (λ v. then (get_or ws i 0) (v, me.1)))
      → Allows (Accounted Fits Holds) slots id me i (λ n. n) then
  allows_load slots id i me then go =
      allows_by slots id i me (λ n. n) then
      (λ ws c fits holds. subst (λ (xs : List ℕ). Moves c id xs (λ v. then (get_or ws i 0) (v, me.1))) (sym (set-get_or ws i 0)) (go ws c fits holds))
