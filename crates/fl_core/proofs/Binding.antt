-- An end is made for a message, or bound: k is the core before, and base the same by its fields.
use Rattle.std.proofs.Common.{◌≡◌, refl, sym, ap, ◌∙◌, subst, ℕ, ◌<◌, List, length, slice_get, slice_set, slice_index_or, Option, Some, Result, Ok}
use Rattle.std.proofs.lemmas.Option.{slice_get_read}
use Rattle.fl_base.specs.declared.identity.Circuit.{Circuit}
use Rattle.fl_compile.specs.declared.program.Program.{Program}
use Rattle.fl_compile.specs.Programs.{TheProgram, program_of}
use Rattle.fl_link.specs.Queue.{TheQueue, QueueTakes}
use Rattle.fl_endpoint.specs.View.{fresh, bound}
use Rattle.fl_core.specs.declared.kind.ChannelKind.TheVariants.{Queue}
use Rattle.fl_core.specs.declared.board_fault.BoardFault.{BoardFault}
use Rattle.fl_core.specs.BoardView.{TheBoard}
use Rattle.fl_core.specs.BoardEvents.{Adds, ChangesEnd}
use Rattle.fl_core.specs.BoardTurns.{over}
use Rattle.fl_core.proofs.BoardPlaces.{set_same}
use Rattle.fl_core.specs.declared.wiring.ArrivalPlace.{ArrivalPlace}
use Rattle.fl_core.specs.declared.hearing.MadeServer.{MadeServer}
use Rattle.fl_core.specs.View.{TheCore}
use Rattle.fl_core.specs.Ends.{RegistersAt}
use Rattle.fl_core.specs.Hearing.{Binds, BindsIf}
use Rattle.fl_core.specs.Inside.{EndFor}
use Rattle.fl_core.proofs.Leaving.{registering_leaves}

pub end_made : (source : TheProgram) (place : ℕ) (s : Option MadeServer) (made : MadeServer) (b b2 : TheBoard) (copy : Program) (n : ℕ) (c : Circuit) → s ≡ Some made → program_of copy ≡ source
    → made.dispatcher ≡ n → made.circuit ≡ c → Adds b n (fresh copy (Some c.0)) Queue (Ok place) b2 → EndFor source place s b b2
end_made source place s made b b2 copy n c is same n_is c_is adds =
    let at = subst (λ (m : ℕ). Adds b m (fresh copy (Some c.0)) Queue (Ok place) b2) (sym n_is) adds in
    let on = subst (λ (d : Circuit). Adds b made.dispatcher (fresh copy (Some d.0)) Queue (Ok place) b2) (sym c_is) at in
    subst (λ (x : Option MadeServer). EndFor source place x b b2) (sym is) (copy, same, on)

module _ (k base : TheCore) (same : base ≡ k) (at : ArrivalPlace) (c : Circuit) (b1 b2 : TheBoard) (p read q : TheQueue) (r : Result (Unit {0}) BoardFault)
    (binds : ChangesEnd base.board at.end (λ s t. t ≡ bound s c.0) b1) (below : at.queue < length k.arrivals) (value : read ≡ slice_index_or base.arrivals at.queue read) (view : p ≡ read)
    (registers : RegistersAt QueueTakes at.end (over b1 p) r (over b2 q)) where
  stands : slice_get base.arrivals at.queue ≡ Some p
  stands = slice_get_read base.arrivals (length base.arrivals) at.queue read refl (subst (λ (x : TheCore). at.queue < length x.arrivals) (sym same) below) value ∙ ap Some (sym view)

  left : q ≡ p
  left = registering_leaves at.end r b1 b2 p q registers

  as_before : record base { board = b2; arrivals = slice_set base.arrivals at.queue q } ≡ record base { board = b2 }
  as_before = ap (λ (xs : List TheQueue). record base { board = b2; arrivals = xs }) (ap (slice_set base.arrivals at.queue) left ∙ set_same base.arrivals at.queue p stands)

  pub binds_done : Binds at c k (record base { board = b2; arrivals = slice_set base.arrivals at.queue q })
  binds_done = subst (λ (x : TheCore). Binds at c x (record base { board = b2; arrivals = slice_set base.arrivals at.queue q })) same (record {
    bound_board = b1;
    binds = binds;
    queue = p;
    queue_is = stands;
    answer = r;
    registers = subst (λ (x : TheQueue). RegistersAt QueueTakes at.end (over b1 p) r (over b2 x)) left registers;
    rest = as_before;
  })

pub binds_found : (o : Option ArrivalPlace) (at : ArrivalPlace) (c : Circuit) (k k2 : TheCore) → o ≡ Some at → Binds at c k k2 → BindsIf o c k k2
binds_found o at c k k2 is h = subst (λ (x : Option ArrivalPlace). BindsIf x c k k2) (sym is) h
