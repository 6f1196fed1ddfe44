-- Turns in the machine, by what is due; and what a turn's event says of its core.
use Rattle.std.proofs.Common.{◌≡◌, refl, sym, ◌∙◌, ap, subst, ℕ, zero, suc, ◌==◌, ◌||◌, Bool, true, false, if◌then◌else◌, List, [], ◌∷◌, map, slice_get, Option, Some, None}
use Rattle.std.specs.Prelude.{Result, Ok, Err}
use Rattle.std.specs.List.{list_any}
use Rattle.std.proofs.lemmas.Bool.{eq-eqb}
use Rattle.fl_base.specs.declared.identity.EndId.{EndId}
use Rattle.fl_base.specs.Given.{given}
use Rattle.fl_lists.specs.declared.place.Place.{Place}
use Rattle.fl_lists.specs.declared.place.Place.TheVariants.{Polled, Pending}
use Rattle.fl_lists.specs.ThreeLists.{ThreeLists, is_in, list_at}
use Rattle.fl_waitset.specs.declared.waitset.Pick.{Pick}
use Rattle.fl_waitset.specs.Waiting.{next_pick}
use Rattle.fl_link.specs.Looks.{Look}
use Rattle.fl_endpoint.specs.View.{TheEnd}
use Rattle.fl_core.specs.declared.turn_answer.TurnAnswer.{TurnAnswer}
use Rattle.fl_core.specs.BoardView.{TheDispatcher, TheEndAtChannel, TheBoard, with_end, with_lists}
use Rattle.fl_core.specs.BoardTurns.{Turns, LooksAt, moment, over}
use Rattle.fl_core.specs.declared.wiring.WiredEnd.{WiredEnd}
use Rattle.fl_core.specs.Sound.{IsCore}
use Rattle.fl_core.specs.View.{TheCore, kind_of, with_board}
use Rattle.fl_model.specs.Calls.{Planned}
use Rattle.fl_model.specs.Events.{DispatcherId, nothing, full, quiet, refused}
use Rattle.fl_model.specs.Rings.{Label, next_of, RingLabel, RingEnd, looks, takes}
use Rattle.fl_model.specs.Ends.{Queue, without_first, End, holds_back, Taken, comes_to}
use Rattle.fl_model.specs.Waits.{Dispatcher, waits_in, Due, pending, polled, due}
use Rattle.fl_model.specs.State.{Binding, State, StepOutcome, answers, binding_of, interface_of, end_in, end_of, dispatcher_of, own_ring, first_on, change_end, change_ring, in_queue}
use Rattle.fl_model.specs.Taking.{Chosen, chosen, takes_next, taken_answer, takes_label, goes_back, gives_from_ring, gives_by, gives}
use Rattle.fl_model.specs.Taking.{comes_off, finds, examines, turns_by, turns}
use Rattle.fl_model.specs.SoundLists.{Listed}
use Rattle.fl_world_refines.specs.View.{TheWorld}
use Rattle.fl_world_refines.proofs.Frames.{Stands}
use Rattle.fl_world_refines.proofs.FramesBase.{same_some}
use Rattle.fl_world_refines.proofs.WritingPieces.{when_true, when_false}
use Rattle.fl_world_refines.proofs.TurningShowings.{DueAt}

-- ---- what a turn comes to

pub turns_found : (d : DispatcherId) (s : State) (x : Dispatcher) → dispatcher_of s d ≡ Some x → turns d s ≡ turns_by d x (due x) s
turns_found d s x q = ap (λ (o : Option Dispatcher). given o (answers s (refused 92)) λ y. turns_by d y (due y) s) q

pub pending_turns : (d : DispatcherId) (s : State) (x : Dispatcher) (c : ℕ) (e : EndId) → due x ≡ pending c → slice_get x.ends c ≡ Some e
    → turns_by d x (due x) s ≡ gives (chosen d c e) s
pending_turns d s x c e q r =
    ap (λ (y : Due). turns_by d x y s) q
    ∙ ap (λ (o : Option EndId). given o (answers s nothing) λ f. gives (chosen d c f) s) r

pub polled_turns : (d : DispatcherId) (s : State) (x : Dispatcher) (c : ℕ) (e : EndId) → due x ≡ polled c → slice_get x.ends c ≡ Some e
    → turns_by d x (due x) s ≡ examines (chosen d c e) s
polled_turns d s x c e q r =
    ap (λ (y : Due). turns_by d x y s) q
    ∙ ap (λ (o : Option EndId). given o (answers s nothing) λ f. examines (chosen d c f) s) r

-- ---- a pending channel

abbrev gives_at : Chosen → Planned → Binding → State → StepOutcome
gives_at t i b s =
    if holds_back (end_in t.end.side b) then answers (goes_back t Pending s) full else gives_by t i (end_in t.end.side b).queue b.back s

pub gives_found : (t : Chosen) (b : Binding) (i : Planned) (s : State) → binding_of s t.end ≡ Some b → interface_of s b ≡ Some i → gives t s ≡ gives_at t i b s
gives_found t b i s p q =
    ap (λ (o : Option Binding). given o (answers s nothing) λ c. given (interface_of s c) (answers s nothing) λ j. gives_at t j c s) p
    ∙ ap (λ (o : Option Planned). given o (answers s nothing) λ j. gives_at t j b s) q

pub gives_held : (t : Chosen) (b : Binding) (i : Planned) (s : State) → binding_of s t.end ≡ Some b → interface_of s b ≡ Some i
    → holds_back (end_in t.end.side b) ≡ true → gives t s ≡ answers (goes_back t Pending s) full
gives_held t b i s p q h = gives_found t b i s p q ∙ when_true (holds_back (end_in t.end.side b)) _ _ h

-- the end takes the next fragment of the other end's calls
pub label_taken : (e sender : EndId) (i : Planned) (k : ℕ) (s : State) (y : End) (t : Taken) → end_of s sender ≡ Some y → comes_to i y.out ≡ t
    → takes_label e i (next_of sender k) s ≡ answers (takes_next e sender t i s) (taken_answer e t)
label_taken e sender i k s y t p q =
    ap (λ (o : Option End). given o (answers s (quiet e)) λ z. answers (takes_next e sender (comes_to i z.out) i s) (taken_answer e (comes_to i z.out))) p
    ∙ ap (λ (u : Taken). answers (takes_next e sender u i s) (taken_answer e u)) q

pub gives_queue : (t : Chosen) (b : Binding) (i : Planned) (s : State) (q : Queue) (label : Label) → binding_of s t.end ≡ Some b → interface_of s b ≡ Some i
    → holds_back (end_in t.end.side b) ≡ false → (end_in t.end.side b).queue ≡ Some q → slice_get q.labels 0 ≡ Some label
    → gives t s ≡ takes_label t.end i label (goes_back t (waits_in (Some (without_first q))) (change_end t.end (in_queue without_first) s))
gives_queue t b i s q label p r h k l =
    gives_found t b i s p r
    ∙ when_false (holds_back (end_in t.end.side b)) _ _ h
    ∙ ap (λ (o : Option Queue). gives_by t i o b.back s) k
    ∙ ap (λ (o : Option Label). given o (answers (goes_back t (waits_in (Some q)) s) nothing) λ m.
    takes_label t.end i m (goes_back t (waits_in (Some (without_first q))) (change_end t.end (in_queue without_first) s))) l

pub gives_ring : (t : Chosen) (b : Binding) (i : Planned) (s : State) (at : RingEnd) (first : RingLabel) → binding_of s t.end ≡ Some b → interface_of s b ≡ Some i
    → holds_back (end_in t.end.side b) ≡ false → (end_in t.end.side b).queue ≡ None → own_ring t.end.side b.back ≡ Some at → first_on at s ≡ Some first
    → gives t s ≡ takes_label t.end i first.label (goes_back t Polled (change_ring at.ring (takes at.side) s))
gives_ring t b i s at first p r h k o l =
    gives_found t b i s p r
    ∙ when_false (holds_back (end_in t.end.side b)) _ _ h
    ∙ ap (λ (x : Option Queue). gives_by t i x b.back s) k
    ∙ ap (λ (x : Option RingEnd). given x (answers s nothing) λ y. gives_from_ring t i y s) o
    ∙ ap (λ (x : Option RingLabel). given x (answers (goes_back t Polled s) nothing) λ y.
    takes_label t.end i y.label (goes_back t Polled (change_ring at.ring (takes at.side) s))) l

-- ---- a polled channel

abbrev pub examines_on : Chosen → RingEnd → Option RingLabel → State → StepOutcome
examines_on t at o s = given o (answers (comes_off t Polled s) (quiet t.end)) λ first. finds t at first.label (change_ring at.ring (looks at.side) s)

pub examines_found : (t : Chosen) (b : Binding) (s : State) (at : RingEnd) → binding_of s t.end ≡ Some b → own_ring t.end.side b.back ≡ Some at
    → examines t s ≡ examines_on t at (first_on at s) s
examines_found t b s at p o =
    ap (λ (x : Option Binding). given x (answers s nothing) λ c. given (own_ring t.end.side c.back) (answers s nothing) λ y. examines_on t y (first_on y s) s) p
    ∙ ap (λ (x : Option RingEnd). given x (answers s nothing) λ y. examines_on t y (first_on y s) s) o

-- ---- lists of channels

same_number : (n : ℕ) → (n == n) ≡ true
same_number n = eq-eqb n n refl

pub first_in : (c : ℕ) (cs xs : List ℕ) → xs ≡ c ∷ cs → is_in c xs ≡ true
first_in c cs xs q = ap (is_in c) q ∙ ap (λ (b : Bool). b || list_any (λ x. x == c) cs) (same_number c)

pub listed_by : (w : TheWorld) (s : State) (d : DispatcherId) (c place : ℕ) (e : EndId) (u : DueAt w s d c place e) (to : Place)
    → is_in c (list_at u.machine.lists to) ≡ true → Listed s to e u.at.binding
listed_by w s d c place e u to q = record {
  at = d;
  dispatcher = u.machine;
  dispatcher_is = u.machine_is;
  channel = c;
  listed = q;
  end_is = u.end_is;
  binding_is = u.at.binding_is;
}

-- ---- the turn's event

abbrev got : {X E : Type 0} → Result X E → X → X
got (Ok x) d = x
got (Err e) d = d

same_ok : {X E : Type 0} (o : Result X E) (x y : X) → o ≡ Ok x → o ≡ Ok y → x ≡ y
same_ok {X} {E} o x y f g = ap (λ (r : Result X E). got r x) (sym f) ∙ ap (λ (r : Result X E). got r x) g

-- a turn's event at the end that is due, with what was picked
pub record TurnOf {T : Type 0} (takes : T → Look → T → Type 0) (w : TheWorld) (s : State) (d : DispatcherId) (c place : ℕ) (e : EndId) (u : DueAt w s d c place e)
    (picked : Pick) (p : T) (r : TurnAnswer) (k2 : TheCore) (q : T) : Type 0 where
  pub lists : ThreeLists
  pub end : TheEnd
  pub looks : LooksAt takes picked u.at.at.kind (moment u.there.lists u.at.at.end p) (Ok r) (moment lists end q)
  pub core : k2 ≡ with_board u.at.core (with_end (with_lists u.at.core.board d.place u.there lists) place u.at.at end)

pub turn_of : {T : Type 0} (takes : T → Look → T → Type 0) (w : TheWorld) (s : State) (d : DispatcherId) (c place : ℕ) (e : EndId) (u : DueAt w s d c place e)
    (picked : Pick) (p : T) (r : TurnAnswer) (k : TheCore) (b2 : TheBoard) (q : T) → slice_get w.cores d.core ≡ Some k → next_pick u.there.lists ≡ Ok picked
    → Turns takes d.place place (over k.board p) (Ok r) (over b2 q)
    → TurnOf takes w s d c place e u picked p r (with_board k b2) q
turn_of {T} takes w s d c place e u picked p r k b2 q there pick a =
    let core : u.at.core ≡ k = same_some (slice_get w.cores d.core) u.at.core k u.at.core_is there in
    let disp : a.dispatcher ≡ u.there = same_some (slice_get k.board.dispatchers d.place) a.dispatcher u.there a.dispatcher_is
    (ap (λ (x : TheCore). slice_get x.board.dispatchers d.place) (sym core) ∙ u.there_is) in
    let seat : a.seat ≡ u.at.at = same_some (slice_get k.board.seats place) a.seat u.at.at a.seat_is
    (ap (λ (x : TheCore). slice_get x.board.seats place) (sym core) ∙ u.at.at_is) in
    let chose : a.picked ≡ picked = same_ok (next_pick u.there.lists) a.picked picked (ap (λ (x : TheDispatcher). next_pick x.lists) (sym disp) ∙ a.picked_is) pick in
    record {
      lists = a.lists;
      end = a.end;
      looks = subst (λ (x : Pick). LooksAt takes x u.at.at.kind (moment u.there.lists u.at.at.end p) (Ok r) (moment a.lists a.end q)) chose
          (subst (λ (x : TheEndAtChannel). LooksAt takes a.picked x.kind (moment u.there.lists x.end p) (Ok r) (moment a.lists a.end q)) seat
          (subst (λ (x : TheDispatcher). LooksAt takes a.picked a.seat.kind (moment x.lists a.seat.end p) (Ok r) (moment a.lists a.end q)) disp a.looks));
      core = ap (with_board k) a.board
          ∙ ap (λ (x : TheDispatcher). with_board k (with_end (with_lists k.board d.place x a.lists) place a.seat a.end)) disp
          ∙ ap (λ (x : TheEndAtChannel). with_board k (with_end (with_lists k.board d.place u.there a.lists) place x a.end)) seat
          ∙ ap (λ (x : TheCore). with_board x (with_end (with_lists x.board d.place u.there a.lists) place u.at.at a.end)) (sym core);
    }

-- ---- how fragments come to an end

same_at : {X Y Z : Type 0} (f : X → Z) (g : Y → Z) (xs : List X) (ys : List Y) (n : ℕ) (x : X) (y : Y) → map f xs ≡ map g ys → slice_get xs n ≡ Some x
    → slice_get ys n ≡ Some y → f x ≡ g y
same_at f g [] ys n x y q r t = absurd (cc)
same_at f g (v ∷ xs) [] n x y q r t = absurd (cc)
same_at f g (v ∷ xs) (u ∷ ys) zero x y q r t = let a : v ≡ x = cc in let b : u ≡ y = cc in let c : f v ≡ g u = cc in ap f (sym a) ∙ c ∙ ap g b
same_at f g (v ∷ xs) (u ∷ ys) (suc n) x y q r t = same_at f g xs ys n x y (cc) r t

pub its_kind : (w : TheWorld) (s : State) (e : EndId) (n place : ℕ) (h : Stands w s e n place) → IsCore h.core → h.at.kind ≡ kind_of h.wired_end.wiring
its_kind w s e n place h k =
    same_at (λ (x : TheEndAtChannel). x.kind) (λ (p : WiredEnd). kind_of p.wiring) h.core.board.seats h.core.wired_ends place h.at h.wired_end k.kinds h.at_is h.wired_end_is
