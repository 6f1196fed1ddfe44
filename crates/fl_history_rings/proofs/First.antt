-- Whose steps one order has; and not every core begins by finding a fragment.
use Rattle.std.proofs.Common.{ℕ, zero, ◌≡◌, ◌<◌, ◌==◌, Bool, true, false, if◌then◌else◌, eq-eqb, List, [], ◌∷◌, length, get_or, ap, subst, ◌∙◌, sym, refl}
use Rattle.std.proofs.lemmas.Bool.{false≢true}
use mathlib.Core.Option.{some}
use lib.ListN.{get_elem?}
use Rattle.fl_base.specs.declared.fragment.Frag.{Frag}
use Rattle.fl_history_rings.specs.declared.board.Action.{Action}
use Rattle.fl_history_rings.specs.declared.board.Action.TheVariants.{Found}
use Rattle.fl_history_rings.specs.declared.board.Entry.{Entry}
use Rattle.fl_history_rings.specs.declared.board.SideEnd.{SideEnd}
use Rattle.fl_history_rings.specs.Rings.{mate, Way, way_with, Does, Goes, Runs, all_empty, entry, IsByItsCore, steps_of}
use Rattle.fl_history_rings.specs.Cores.{TheCore, InOneOrder}
use Rattle.fl_history_rings.specs.Laws.{IsAmong, AllAreAmong, NoOthers, BeginsByFinding, NotAllBeginByFinding}
use Rattle.fl_history_rings.proofs.Logs.{there, all_alike}

-- a step is of a core of its side
of_its_core : (ends : List SideEnd) (cores : List TheCore) (e : Entry) → AllAreAmong cores ends → IsByItsCore ends e → IsAmong cores e.core
of_its_core ends cores e all_here (end, at, by) = subst (λ (n : ℕ). IsAmong cores n) (sym by) (all_here e.side end at)

pub no_others : NoOthers
no_others = λ ends cores order all_here i e is. of_its_core ends cores e all_here (order.by_its_core i e is)

-- ---- the first step of all

nil_cons : (z : Entry) (zs : List Entry) → (let none : List Entry = [] in none) ≡ z ∷ zs → ⊥
nil_cons z zs e = cc

nil_cons_frag : (z : Frag) (zs : List Frag) → (let none : List Frag = [] in none) ≡ z ∷ zs → ⊥
nil_cons_frag z zs e = cc

-- it finds no fragment
no_frag : (ends : List SideEnd) (count : ℕ) (e : Entry) (after : List Way) (control : ℕ) → Goes ends (all_empty count) e after → e.action ≡ Found control → ⊥
no_frag ends count e after control goes is =
    let does : Does goes.end.slots goes.mine goes.theirs (Found control) goes.mine_left goes.theirs_left = subst (λ (d : Action). Does goes.end.slots goes.mine goes.theirs d goes.mine_left goes.theirs_left) is goes.does in
    let blank : way_with [] 0 0 ≡ goes.theirs = all_alike count (mate e.side) (way_with [] 0 0) goes.theirs goes.stood_back in
    nil_cons_frag does.0 does.1 (ap (λ (r : Way). r.waiting) blank ∙ does.2)

first_of : (b : Bool) (e x : Entry) (es xs : List Entry) → b ≡ true → (if b then e ∷ es else es) ≡ x ∷ xs → e ≡ x
first_of true e x es xs is same = ap (λ (l : List Entry). get_or l zero e) same
first_of false e x es xs is same = absurd (false≢true is)

-- it is the first step of its core
begins : (n : ℕ) (e x : Entry) (es xs : List Entry) → e.core ≡ n → steps_of n (e ∷ es) ≡ x ∷ xs → e ≡ x
begins n e x es xs by same = first_of (e.core == n) e x (steps_of n es) xs (eq-eqb e.core n by) same

module _ (ends : List SideEnd) (cores : List TheCore) (all_here : AllAreAmong cores ends) (find : (i : ℕ) (c : TheCore) → get_elem? cores i ≡ some c → (control : ℕ) × BeginsByFinding c.steps control) where
  -- the core of the first step of all begins by it
  not_first : (e : Entry) (es : List Entry) (after : List Way) → Goes ends (all_empty (length ends)) e after → IsByItsCore ends e
      → ((i : ℕ) (c : TheCore) → get_elem? cores i ≡ some c → steps_of c.number (e ∷ es) ≡ c.steps) → ⊥
  not_first e es after goes by did =
      let here = of_its_core ends cores e all_here by in
      let c : TheCore = here.1 in
      let found = find here.0 c here.2 in
      let finds = found.1 in
      let x : Entry = entry finds.0 finds.1 (Found found.0) in
      let is : e ≡ x = begins c.number e x es finds.2 (sym here.3) (did here.0 c here.2 ∙ finds.3) in
      no_frag ends (length ends) e after found.0 goes (ap (λ (y : Entry). y.action) is)

  not_all : (log : List Entry) (queues : List Way) → Runs (Goes ends) (all_empty (length ends)) log queues → ((i : ℕ) (e : Entry) → get_elem? log i ≡ some e → IsByItsCore ends e)
      → ((i : ℕ) (c : TheCore) → get_elem? cores i ≡ some c → steps_of c.number log ≡ c.steps) → 0 < length cores → ⊥
  not_all [] queues runs by_its_core did some_core =
      let c = there cores zero some_core in
      let found = find zero c.0 c.1 in
      let finds = found.1 in
      nil_cons (entry finds.0 finds.1 (Found found.0)) finds.2 (did zero c.0 c.1 ∙ finds.3)
  not_all (e ∷ es) queues runs by_its_core did some_core = not_first e es runs.0 runs.1 (by_its_core zero e refl) did

pub not_all_begin : NotAllBeginByFinding
not_all_begin = λ ends cores order some_core all_here find. not_all ends cores all_here find order.log order.queues order.runs order.by_its_core order.did some_core
