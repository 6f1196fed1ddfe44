-- Each step of a side is a true one.
use Rattle.std.proofs.Common.{ℕ, ◌≡◌, ◌≢◌, Option, Some, None, List, [], ◌∷◌, ◌++◌, length, ap, subst, ◌∙◌, sym, refl, arith, append-nil}
use mathlib.Core.Option.{some}
use lib.ListN.{get_elem?}
use Rattle.atomic_table.specs.Seated.{TableId}
use Rattle.fl_base.specs.declared.fragment.Frag.{Frag}
use Rattle.fl_link.specs.Looks.{Look}
use Rattle.fl_ring.specs.SharedSides.{TheSide}
use Rattle.fl_cores_joined.specs.Rings.{standing_for, FindsWhatStood}
use Rattle.fl_history_rings.specs.declared.board.Action.{Action}
use Rattle.fl_history_rings.specs.declared.board.Entry.{Entry}
use Rattle.fl_history_rings.specs.declared.board.SideEnd.{SideEnd}
use Rattle.fl_history_rings.specs.Rings.{mate, Way, Goes, Runs, all_empty, entry}
use Rattle.fl_history_rings.specs.Rule.{gather, one_action, slots_of, seen_from}
use Rattle.fl_history_rings.proofs.Words.{mate_apart}
use Rattle.fl_history_sides.specs.Noted.{Notes}
use Rattle.fl_history_events.proofs.Cutting.{gather_join}
use Rattle.fl_history_facing.specs.Facing.{side_at, steps_by}
use Rattle.fl_history_facing.specs.Laws.{StepsAreTrue}
use Rattle.fl_history_facing.proofs.Acted.{side_by, side_is, FindAlong, Shape, acts_of, shape_of, finds_what_stood}
use Rattle.fl_history_facing.proofs.Along.{piece_here, piece_else, find_along, seen_run}
use Rattle.fl_history_facing.proofs.Sides.{standing_is}

gather_own : (core s : ℕ) (acts : List Action) → gather one_action s (steps_by core s acts) ≡ acts
gather_own core s [] = refl
gather_own core s (a ∷ acts) =
    piece_here s (entry core s a) (steps_by core s acts) refl ∙ ap (λ (l : List Action). a ∷ l) (gather_own core s acts)

gather_else : (core s w : ℕ) (acts : List Action) → s ≢ w → (let none : List Action = [] in gather one_action w (steps_by core s acts) ≡ none)
gather_else core s w [] ne = refl
gather_else core s w (a ∷ acts) ne = piece_else w (entry core s a) (steps_by core s acts) ne ∙ gather_else core s w acts ne

never_seen : (f : Frag) → (let none : Option Frag = None in none ≡ Some f) → ⊥
never_seen f e = cc

module _ (table : TableId) (ends : List SideEnd) (log : List Entry) (ways after : List Way) (core s : ℕ)
    (run : Runs (Goes ends) (all_empty (length ends)) log ways) where
  abbrev slots : ℕ
  slots = slots_of ends s

  abbrev acts : List Action
  acts = gather one_action s log

  before_is : side_at table ends log s ≡ side_by table slots s acts
  before_is = side_is table slots s log

  after_is : (did : List Action) → side_at table ends (log ++ steps_by core s did) s ≡ side_by table slots s (acts ++ did)
  after_is did =
      side_is table slots s (log ++ steps_by core s did)
      ∙ ap (side_by table slots s) (gather_join one_action s log (steps_by core s did) ∙ ap (λ (l : List Action). acts ++ l) (gather_own core s did))

  -- the side across stays
  across_is : (did : List Action) → side_at table ends (log ++ steps_by core s did) (mate s) ≡ side_at table ends log (mate s)
  across_is did =
      let w : ℕ = mate s in
      side_is table (slots_of ends w) w (log ++ steps_by core s did)
      ∙ ap (side_by table (slots_of ends w) w)
      (gather_join one_action w log (steps_by core s did)
      ∙ ap (λ (l : List Action). gather one_action w log ++ l) (gather_else core s w did (λ e. mate_apart s (sym e)))
      ∙ append-nil (gather one_action w log))
      ∙ sym (side_is table (slots_of ends w) w log)

  finds_where : (stood : List Frag) (did : List Action) (x : Shape) → did ≡ acts_of x
      → ((frag : Frag) → seen_from None acts ≡ Some frag → (rest : List Frag) × (stood ≡ frag ∷ rest)) → FindAlong stood did
      → FindsWhatStood stood (side_at table ends log s) (side_at table ends (log ++ steps_by core s did) s)
  finds_where stood did x is seen along =
      let found_so : FindsWhatStood stood (side_by table slots s acts) (side_by table slots s (acts ++ acts_of x)) =
      finds_what_stood table slots s acts stood seen x (subst (λ (l : List Action). FindAlong stood l) is along) in
      let so : FindsWhatStood stood (side_by table slots s acts) (side_by table slots s (acts ++ did)) =
      subst (λ (l : List Action). FindsWhatStood stood (side_by table slots s acts) (side_by table slots s (acts ++ l))) (sym is) found_so in
      subst (λ (p : TheSide). FindsWhatStood stood p (side_at table ends (log ++ steps_by core s did) s)) (sym before_is)
      (subst (λ (q : TheSide). FindsWhatStood stood (side_by table slots s acts) q) (sym (after_is did)) so)

  abbrev Stood : List Frag
  Stood = standing_for (side_at table ends log s) (side_at table ends log (mate s))

  finds_at : (q : Way) → get_elem? ways (mate s) ≡ some q → (did : List Action) (x : Shape) → did ≡ acts_of x → Runs (Goes ends) ways (steps_by core s did) after
      → FindsWhatStood Stood (side_at table ends log s) (side_at table ends (log ++ steps_by core s did) s)
  finds_at q at did x is goes =
      let stood_is : Stood ≡ q.waiting = standing_is ends log ways run table s q at in
      subst (λ (l : List Frag). FindsWhatStood l (side_at table ends log s) (side_at table ends (log ++ steps_by core s did) s)) (sym stood_is)
      (finds_where q.waiting did x is
      (λ frag seen. seen_run ends (all_empty (length ends)) ways s None log (λ f none. absurd (never_seen f none)) run frag seen q at)
      (find_along ends core s did ways after q at goes))

  -- nothing was done, or something by a side that is there
  finds_so : (did : List Action) (look : Look) → Notes look did → Runs (Goes ends) ways (steps_by core s did) after
      → FindsWhatStood Stood (side_at table ends log s) (side_at table ends (log ++ steps_by core s did) s)
  finds_so [] look notes goes =
      subst (λ (p : TheSide). FindsWhatStood Stood p (side_at table ends (log ++ []) s)) (sym before_is)
      (subst (λ (q : TheSide). FindsWhatStood Stood (side_by table slots s acts) q) (sym (after_is []))
      (still_finds Stood (side_by table slots s acts) (side_by table slots s (acts ++ [])) (ap (side_by table slots s) (append-nil acts))))
    where
      still_finds : (stood : List Frag) (p q : TheSide) → q ≡ p → FindsWhatStood stood p q
      still_finds stood p q same =
          let m = ap (λ (z : TheSide). z.misses) same in
          let l = ap (λ (z : TheSide). z.loads) same in
          record { nothing = λ less. absurd (omega (arith, less, m)); something = λ alike less. absurd (omega (arith, less, l)) }
  finds_so (a ∷ did) look notes goes =
      let shape = shape_of look (a ∷ did) notes in
      finds_at goes.1.theirs goes.1.stood_back (a ∷ did) shape.0 shape.1 goes

pub steps_are_true : StepsAreTrue
steps_are_true = λ table ends log ways after core s did look run goes notes.
    let finds = finds_so table ends log ways after core s run did look notes goes in
    let across = across_is table ends log ways after core s run did in
    ((λ step. (step, finds, across)), (λ step. (step, finds, across)))
