-- A fragment arrives for an end: k is the core before, and base the same by its fields.
use Rattle.std.proofs.Common.{◌≡◌, refl, sym, ap, ◌∙◌, subst, ℕ, ◌<◌, length, slice_set, slice_index_or, Some, None}
use Rattle.std.proofs.lemmas.Option.{slice_get_read}
use Rattle.fl_base.specs.declared.fragment.Frag.{Frag}
use Rattle.fl_base.specs.declared.identity.EndId.{EndId}
use Rattle.fl_base.specs.Control.{bare}
use Rattle.fl_link.specs.Looks.{Look}
use Rattle.fl_link.specs.Queue.{TheQueue, QueuePuts}
use Rattle.fl_hop.specs.declared.forward.ForwardOutcome.{ForwardOutcome}
use Rattle.fl_hop.specs.declared.forward.ForwardOutcome.TheVariants.{Moved, Full, Spent}
use Rattle.fl_hop.specs.Forward.{put_label, Leaves}
use Rattle.fl_hop.specs.OfCircuit.{as_carried}
use Rattle.fl_core.specs.BoardView.{TheBoard}
use Rattle.fl_core.specs.declared.wiring.ArrivalPlace.{ArrivalPlace}
use Rattle.fl_core.specs.View.{TheCore, arriving_at}
use Rattle.fl_core.specs.Ends.{at_side, TriggersIf}
use Rattle.fl_core.specs.Links.{Arrives, reached}

-- where it didn't move nobody is told
pub not_moved : (e : ℕ) (o : ForwardOutcome) → (o ≡ Moved → ⊥) → reached e o ≡ None
not_moved e Moved h = absurd (h refl)
not_moved e Full h = refl
not_moved e Spent h = refl

pub arrives_done : {T : Type 0} (takes : T → Look → T → Type 0) (k base : TheCore) → base ≡ k → (frag : Frag) (name : EndId) (at : ArrivalPlace) (p q : T) (outcome : ForwardOutcome) (x read y : TheQueue)
    (b : TheBoard) → arriving_at k name ≡ Some at → at.queue < length k.arrivals → read ≡ slice_index_or base.arrivals at.queue read → x ≡ read
    → QueuePuts x (put_label outcome (as_carried frag)) y → Leaves takes outcome (bare frag) (record { before = p; after = q }) → TriggersIf (reached at.end outcome) base.board b
    → Arrives takes frag name (at_side k p) outcome (at_side (record base { board = b; arrivals = slice_set base.arrivals at.queue y }) q)
arrives_done takes k base same frag name at p q outcome x read y b is below value view puts left triggers =
    subst (λ (c : TheCore). Arrives takes frag name (at_side c p) outcome (at_side (record base { board = b; arrivals = slice_set base.arrivals at.queue y }) q)) same (record {
      end = at.end;
      queue = at.queue;
      at = subst (λ (c : TheCore). arriving_at c name ≡ Some at) (sym same) is;
      before = x;
      before_is = slice_get_read base.arrivals (length base.arrivals) at.queue read refl (subst (λ (c : TheCore). at.queue < length c.arrivals) (sym same) below) value ∙ ap Some (sym view);
      after = y;
      puts = puts;
      left = left;
      triggers = triggers;
      rest = refl;
    })
