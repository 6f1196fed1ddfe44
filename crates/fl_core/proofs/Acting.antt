-- Events of a core from those of its board: k is the core before, and base the same by its fields.
use Rattle.std.proofs.Common.{◌≡◌, refl, sym, ap, ◌∙◌, subst, ℕ, ◌<◌, slice_index_or, slice_set, length, Option, Some, None, IfSome}
use Rattle.std.proofs.lemmas.Option.{slice_get_read}
use Rattle.fl_base.specs.declared.identity.EndId.{EndId}
use Rattle.fl_link.specs.Queue.{TheQueue}
use Rattle.fl_core.specs.BoardView.{TheBoard}
use Rattle.fl_core.specs.View.{TheCore, with_board, place_of, arrivals_of}
use Rattle.fl_core.specs.Sound.{IsCore}
use Rattle.fl_core.specs.Ends.{OnBoard, OverArrivals}
use Rattle.fl_core.proofs.HasWiredEnd.{placed_below}

pub on_board : (k base : TheCore) → base ≡ k → (Event : TheBoard → TheBoard → Type 0) (b : TheBoard) → Event base.board b → OnBoard k Event (with_board base b)
on_board k base same Event b h = subst (λ (x : TheCore). OnBoard x Event (with_board base b)) same (record { event = h; rest = refl })

-- over an arrival queue
pub over_arrivals : (k base : TheCore) → base ≡ k → (e a : ℕ) → arrivals_of k e ≡ Some a → a < length k.arrivals → (p read : TheQueue)
    → read ≡ slice_index_or base.arrivals a read → p ≡ read → (Event : TheBoard → TheQueue → TheBoard → TheQueue → Type 0) (b : TheBoard) (q : TheQueue)
    → Event base.board p b q → OverArrivals k e Event (record base { board = b; arrivals = slice_set base.arrivals a q })
over_arrivals k base same e a at below p read value view Event b q h =
    subst (λ (x : TheCore). OverArrivals x e Event (record base { board = b; arrivals = slice_set base.arrivals a q })) same
    (record {
      place = a;
      place_is = subst (λ (x : TheCore). arrivals_of x e ≡ Some a) (sym same) at;
      before = p;
      before_is = slice_get_read base.arrivals (length base.arrivals) a read refl (subst (λ (x : TheCore). a < length x.arrivals) (sym same) below) value ∙ ap Some (sym view);
      after = q;
      event = h;
      rest = refl;
    })

pub if_placed : (k : TheCore) (name : EndId) (r : Option ℕ) → IsCore k → r ≡ place_of k name → IfSome r (λ e. e < length k.board.seats)
if_placed k name None sound is = tt
if_placed k name (Some e) sound is = placed_below k name e sound (sym is)
