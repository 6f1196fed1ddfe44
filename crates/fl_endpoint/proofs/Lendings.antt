-- The place that is lent to an end: what is known of it, and what a receive comes to there.
use Rattle.std.proofs.Common.{◌≡◌, ℕ, zero, suc, ◌<◌, true, List, [], ◌∷◌, ◌++◌, map, length, Some, Result, Ok, Err, refl, sym, ap, subst, ◌∙◌, Option, None}
use Rattle.std.specs.Prelude.{slice_get, slice_set, IsSomeAnd}
use Rattle.std.proofs.lemmas.Option.{slice_get_within}
use Rattle.fl_base.specs.declared.fragment.Frag.{Frag}
use Rattle.fl_base.specs.Control.{bare}
use Rattle.fl_value_data.specs.declared.value.Call.{Call}
use Rattle.fl_value_data.specs.Value.{TheCall, call_of}
use Rattle.fl_value_data.specs.Fits.{fits_of}
use Rattle.fl_wire.specs.Reading.{IsPart, Means, OneReading}
use Rattle.fl_wire.specs.declared.fault.WireFault.{WireFault}
use Rattle.fl_wire.specs.Words.{interface_words_fit}
use Rattle.fl_compile.specs.declared.program.Program.{Program}
use Rattle.fl_compile.specs.Programs.{TheProgram, program_of}
use Rattle.fl_link.specs.Looks.{Look, saw, found}
use Rattle.fl_machine.specs.Receiving.{IsRefused}
use Rattle.fl_machine.specs.Reassembling.{TheReassembly, AreWhole, Takes, ChangesPlace, without_parts}
use Rattle.fl_machine.specs.declared.reassembly.Taken.TheVariants as taken
use Rattle.fl_machine.specs.declared.reassembly.TakeFault.TheVariants as refused
use Rattle.fl_endpoint.specs.declared.answer.ReceiveAnswer.{ReceiveAnswer}
use Rattle.fl_endpoint.specs.declared.answer.ReceiveAnswer.TheVariants.{Handle, Part, Quiet, Empty, HeldBack}
use Rattle.fl_endpoint.specs.declared.fault.EndFault.{EndFault}
use Rattle.fl_endpoint.specs.declared.fault.EndFault.TheVariants.{Spent, Busy, UnknownMessage, Misfit, NotBound, Failed, Wire, Memory}
use Rattle.fl_endpoint.specs.View.{TheEnd, with_parts, interface_in, with_handled, with_failed}
use Rattle.fl_endpoint.specs.Events.{IsOpen, Readies, AreCall, Handles, TakesIn, Receives}
use Rattle.fl_endpoint.specs.Lent.{IsOf, IsPlaceOf, taking, TakesInWith, TakesInAt, receipt, ReceivesWith, ReceivesAt}
use Rattle.fl_endpoint.proofs.Sounds.{bare_more, are_call}

-- an element that replaces itself changes nothing
set_same : {X : Type 0} (xs : List X) (i : ℕ) (x : X) → slice_get xs i ≡ Some x → slice_set xs i x ≡ xs
set_same [] i x e = refl
set_same (z ∷ xs) zero x e = let same : z ≡ x = cc in ap (λ y. y ∷ xs) (sym same)
set_same (z ∷ xs) (suc i) x e = ap (λ ys. z ∷ ys) (set_same xs i x e)

-- an element that replaces another stands in its place
set_here : {X : Type 0} (xs : List X) (i : ℕ) (x y : X) → slice_get xs i ≡ Some x → slice_get (slice_set xs i y) i ≡ Some y
set_here [] i x y e = absurd (cc)
set_here (z ∷ xs) zero x y e = refl
set_here (z ∷ xs) (suc i) x y e = set_here xs i x y e

-- one that is added stands behind all others
pub push_last : {X : Type 0} (xs : List X) (y : X) → slice_get (xs ++ y ∷ []) (length xs) ≡ Some y
push_last [] y = refl
push_last (x ∷ xs) y = push_last xs y

-- ---- a call that is whole

-- a call that a fragment made whole, handled
handled_in : (s : TheEnd) (f : Frag) (c : TheCall) (r : Result ReceiveAnswer EndFault) (t : TheEnd) → AreCall s (s.parts ++ f ∷ []) c → Handles s c r t → TakesIn s f r t
handled_in s f c (Ok (Handle call)) t are h =
    (subst (λ (d : TheCall). AreCall s (s.parts ++ f ∷ []) d) (sym h.0) are, h.1 ∙ ap (λ (d : TheCall). with_handled s d) (sym h.0))
handled_in s f c (Ok Part) t are h = absurd h
handled_in s f c (Ok Quiet) t are h = absurd h
handled_in s f c (Ok Empty) t are h = absurd h
handled_in s f c (Ok HeldBack) t are h = absurd h
handled_in s f c (Err Memory) t are h = ((c, are), h)
handled_in s f c (Err Spent) t are h = absurd h
handled_in s f c (Err Busy) t are h = absurd h
handled_in s f c (Err UnknownMessage) t are h = absurd h
handled_in s f c (Err Misfit) t are h = absurd h
handled_in s f c (Err NotBound) t are h = absurd h
handled_in s f c (Err Failed) t are h = absurd h
handled_in s f c (Err (Wire fault)) t are h = absurd h

-- what an end handles by itself it handles whatever it has taken: then nothing of it is left
handled_with : (s : TheEnd) (parts : List Frag) (c : TheCall) (answer : ReceiveAnswer) (t : TheEnd) → Handles s c (Ok answer) t → Handles (with_parts s parts) c (Ok answer) (with_parts t [])
handled_with s parts c (Handle call) t h = (h.0, ap (λ (x : TheEnd). with_parts x []) h.1)
handled_with s parts c Part t h = absurd h
handled_with s parts c Quiet t h = absurd h
handled_with s parts c Empty t h = absurd h
handled_with s parts c HeldBack t h = absurd h

-- and where memory ran out, all of it is left
refused_with : (s : TheEnd) (parts : List Frag) (c : TheCall) (fault : EndFault) (t : TheEnd) → Handles s c (Err fault) t → Handles (with_parts s parts) c (Err fault) (with_parts t parts)
refused_with s parts c Memory t h = ap (λ (x : TheEnd). with_parts x parts) h
refused_with s parts c Spent t h = absurd h
refused_with s parts c Busy t h = absurd h
refused_with s parts c UnknownMessage t h = absurd h
refused_with s parts c Misfit t h = absurd h
refused_with s parts c NotBound t h = absurd h
refused_with s parts c Failed t h = absurd h
refused_with s parts c (Wire fault) t h = absurd h

-- handling a call leaves the program
handled_program : (s : TheEnd) (c : TheCall) (r : Result ReceiveAnswer EndFault) (t : TheEnd) → Handles s c r t → t.program ≡ s.program
handled_program s c (Ok (Handle call)) t h = ap (λ (x : TheEnd). x.program) h.1
handled_program s c (Ok Part) t h = absurd h
handled_program s c (Ok Quiet) t h = absurd h
handled_program s c (Ok Empty) t h = absurd h
handled_program s c (Ok HeldBack) t h = absurd h
handled_program s c (Err Memory) t h = ap (λ (x : TheEnd). x.program) h
handled_program s c (Err Spent) t h = absurd h
handled_program s c (Err Busy) t h = absurd h
handled_program s c (Err UnknownMessage) t h = absurd h
handled_program s c (Err Misfit) t h = absurd h
handled_program s c (Err NotBound) t h = absurd h
handled_program s c (Err Failed) t h = absurd h
handled_program s c (Err (Wire fault)) t h = absurd h

-- the call is one of the end's
are_whole : (s : TheEnd) (r : TheReassembly) (f : Frag) (c : TheCall) → OneReading → interface_words_fit (interface_in s) ≡ true → IsOf s r → bare f ≡ f → AreWhole r (r.parts ++ f ∷ []) c
    → AreCall (with_parts s r.parts) (r.parts ++ f ∷ []) c
are_whole s r f c law words of is whole =
    are_call (with_parts s r.parts) f c law words of.are_bare is
    (subst (λ (p : TheProgram). fits_of p.interface c ≡ true) of.program whole.fits)
    (subst (λ (p : TheProgram). Means p.plan p.interface (r.parts ++ f ∷ []) c 0) of.program whole.means)

-- an end of the same program has the place, where its fragments are bare
still_of : (s t : TheEnd) (r : TheReassembly) (parts : List Frag) → t.program ≡ s.program → IsOf s r → map bare parts ≡ parts → IsOf t (record { program = r.program; parts = parts })
still_of s t r parts same of are_bare = record { program = of.program ∙ ap (λ (p : Program). program_of p) (sym same); are_bare = are_bare }

-- ---- the place of an end

-- what stands there is of the end
pub as_place : (s : TheEnd) (calls : List TheReassembly) (place : ℕ) (r : TheReassembly) → slice_get calls place ≡ Some r → IsOf s r → IsPlaceOf s calls place
as_place s calls place r there of = subst (λ (o : Option TheReassembly). IsSomeAnd o (λ x. IsOf s x)) (sym there) of

standing : (s : TheEnd) (o : Option TheReassembly) → IsSomeAnd o (λ x. IsOf s x) → (r : TheReassembly) × (o ≡ Some r) × IsOf s r
standing s None h = absurd h
standing s (Some r) h = (r, refl, h)

-- it stays one
pub still_place : (calls : List TheReassembly) (place : ℕ) (Event : TheReassembly → TheReassembly → Type 0) (after : List TheReassembly) (t : TheEnd) → ((was is : TheReassembly) → Event was is → IsOf t is)
    → ChangesPlace calls place Event after → IsPlaceOf t after place
still_place calls place Event after t of h =
    as_place t after place h.is (ap (λ (x : List TheReassembly). slice_get x place) h.after_is ∙ set_here calls place h.was h.is h.was_there) (of h.was h.is h.event)

module _ (s : TheEnd) (calls : List TheReassembly) (place : ℕ) (known : IsPlaceOf s calls place) where
  here : (r : TheReassembly) × (slice_get calls place ≡ Some r) × IsOf s r
  here = standing s (slice_get calls place) known

  pub place_below : place < length calls
  place_below = slice_get_within calls place here.0 here.1

  -- what was there is of the end
  was_of : (was : TheReassembly) → slice_get calls place ≡ Some was → IsOf s was
  was_of was e = let same : here.0 ≡ was = cc (here.1, e) in subst (λ (x : TheReassembly). IsOf s x) same here.2

  -- where nothing changes
  stays_as : (Event : TheReassembly → TheReassembly → Type 0) → ((r : TheReassembly) → IsOf s r → Event r r) → ChangesPlace calls place Event calls
  stays_as Event event = record { was = here.0; was_there = here.1; is = here.0; event = event here.0 here.2; after_is = sym (set_same calls place here.0 here.1) }

  -- what an event comes to where what was there is of the end
  changes_as : (E F : TheReassembly → TheReassembly → Type 0) (after : List TheReassembly) → ((was is : TheReassembly) → IsOf s was → E was is → F was is) → ChangesPlace calls place E after → ChangesPlace calls place F after
  changes_as E F after f h = record { was = h.was; was_there = h.was_there; is = h.is; event = f h.was h.is (was_of h.was h.was_there) h.event; after_is = h.after_is }

  module _ (f : Frag) (bare_is : bare f ≡ f) (after : List TheReassembly) where
    -- what is so with what stood there is so with what stands there, where that is the same
    takes_same : (answer : Result ReceiveAnswer EndFault) (t : TheEnd) (was is : TheReassembly) → is ≡ was → TakesInWith (taking s f answer t) was was → TakesInWith (taking s f answer t) was is
    takes_same answer t was is e h = subst (λ (x : TheReassembly). TakesInWith (taking s f answer t) was x) (sym e) h

    pub refused_at : (fault : WireFault) (t : TheEnd) → t ≡ with_failed s → ChangesPlace calls place (λ a b. Takes a f (Err (refused.Wire fault)) b) after
        → TakesInAt (taking s f (Err (Wire fault)) t) calls place after
    refused_at fault t t_is h = changes_as (λ a b. Takes a f (Err (refused.Wire fault)) b) (TakesInWith (taking s f (Err (Wire fault)) t)) after
        (λ was is of e. takes_same (Err (Wire fault)) t was is e.1 (record {
          of = still_of s t was was.parts (ap (λ (x : TheEnd). x.program) t_is) of of.are_bare;
          program = refl;
          takes_in = (subst (λ (p : TheProgram). IsRefused p.plan p.interface was.parts f fault) of.program e.0, ap (λ (x : TheEnd). with_parts x was.parts) t_is);
        })) h

    pub part_at : ChangesPlace calls place (λ a b. Takes a f (Ok taken.Part) b) after → TakesInAt (taking s f (Ok Part) s) calls place after
    part_at h = changes_as (λ a b. Takes a f (Ok taken.Part) b) (TakesInWith (taking s f (Ok Part) s)) after
        (λ was is of e.
        let is_more : is ≡ record { program = was.program; parts = was.parts ++ f ∷ [] } = e.1 ∙ ap (λ (x : Frag). let r : TheReassembly = record { program = was.program; parts = was.parts ++ x ∷ [] } in r) bare_is in
        subst (λ (x : TheReassembly). TakesInWith (taking s f (Ok Part) s) was x) (sym is_more) (record {
          of = still_of s s was (was.parts ++ f ∷ []) refl of (bare_more was.parts f of.are_bare bare_is);
          program = refl;
          takes_in = (subst (λ (p : TheProgram). IsPart p.plan p.interface (was.parts ++ f ∷ [])) of.program e.0, refl);
        })) h

    module _ (law : OneReading) (words : interface_words_fit (interface_in s) ≡ true) where
      pub memory_at : ChangesPlace calls place (λ a b. Takes a f (Err refused.Memory) b) after → TakesInAt (taking s f (Err Memory) s) calls place after
      memory_at h = changes_as (λ a b. Takes a f (Err refused.Memory) b) (TakesInWith (taking s f (Err Memory) s)) after
          (λ was is of e. takes_same (Err Memory) s was is e.1 (record {
            of = of;
            program = refl;
            takes_in = ((e.0.0, are_whole s was f e.0.0 law words of bare_is e.0.1), refl);
          })) h

      pub whole_refused : (call : Call) → ChangesPlace calls place (λ a b. Takes a f (Ok (taken.Whole call)) b) after → (fault : EndFault) (t : TheEnd) → Handles s (call_of call) (Err fault) t
          → TakesInAt (taking s f (Err fault) t) calls place after
      whole_refused call h fault t handles = changes_as (λ a b. Takes a f (Ok (taken.Whole call)) b) (TakesInWith (taking s f (Err fault) t)) after
          (λ was is of e. takes_same (Err fault) t was is e.1 (record {
            of = still_of s t was was.parts (handled_program s (call_of call) (Err fault) t handles) of of.are_bare;
            program = refl;
            takes_in = handled_in (with_parts s was.parts) f (call_of call) (Err fault) (with_parts t was.parts) (are_whole s was f (call_of call) law words of bare_is e.0) (refused_with s was.parts (call_of call) fault t handles);
          })) h

    -- a call that is whole stays under way
    module _ (call : Call) (h : ChangesPlace calls place (λ a b. Takes a f (Ok (taken.Whole call)) b) after) where
      pub whole_fits : fits_of (interface_in s) (call_of call) ≡ true
      whole_fits = subst (λ (p : TheProgram). fits_of p.interface (call_of call) ≡ true) (was_of h.was h.was_there).program h.event.0.fits

      whole_stays : after ≡ calls
      whole_stays = h.after_is ∙ ap (λ (x : TheReassembly). slice_set calls place x) h.event.1 ∙ set_same calls place h.was h.was_there

      pub below_after : place < length after
      below_after = subst (λ (x : List TheReassembly). place < length x) (sym whole_stays) place_below

      -- until it is done with
      pub whole_handled : OneReading → interface_words_fit (interface_in s) ≡ true → (answer : ReceiveAnswer) (t : TheEnd) (last : List TheReassembly) → Handles s (call_of call) (Ok answer) t
          → ChangesPlace after place (λ a b. b ≡ without_parts a) last → TakesInAt (taking s f (Ok answer) t) calls place last
      whole_handled law words answer t last handles done =
          let there : slice_get calls place ≡ Some done.was = ap (λ (x : List TheReassembly). slice_get x place) (sym whole_stays) ∙ done.was_there in
          let same : done.was ≡ h.was = cc (there, h.was_there) in
          let of = was_of h.was h.was_there in
          let is_empty : done.is ≡ without_parts h.was = done.event ∙ ap (λ (x : TheReassembly). without_parts x) same in
          record {
            was = h.was;
            was_there = h.was_there;
            is = done.is;
            event = subst (λ (x : TheReassembly). TakesInWith (taking s f (Ok answer) t) h.was x) (sym is_empty) (record {
              of = still_of s t h.was [] (handled_program s (call_of call) (Ok answer) t handles) of refl;
              program = refl;
              takes_in = handled_in (with_parts s h.was.parts) f (call_of call) (Ok answer) (with_parts t []) (are_whole s h.was f (call_of call) law words of bare_is h.event.0) (handled_with s h.was.parts (call_of call) answer t handles);
            });
            after_is = done.after_is ∙ ap (λ (x : List TheReassembly). slice_set x place done.is) whole_stays;
          }

  -- ---- a receive

  module _ {T : Type 0} (takes : T → Look → T → Type 0) (p q : T) where
    pub receives_kept : (answer : Result ReceiveAnswer EndFault) → ((parts : List Frag) → Receives takes (with_parts s parts) p answer (with_parts s parts) q) → ReceivesAt takes (receipt s p answer s q) calls place calls
    receives_kept answer h = stays_as (ReceivesWith takes (receipt s p answer s q)) (λ r of. record { of = of; program = refl; receives = h r.parts })

    pub not_ready : (fault : EndFault) → Readies s (Err fault) → q ≡ p → ReceivesAt takes (receipt s p (Err fault) s q) calls place calls
    not_ready NotBound h e = receives_kept (Err NotBound) (λ parts. (h, e, refl))
    not_ready Failed h e = receives_kept (Err Failed) (λ parts. (h, e, refl))
    not_ready Spent h e = absurd h
    not_ready Busy h e = absurd h
    not_ready UnknownMessage h e = absurd h
    not_ready Misfit h e = absurd h
    not_ready Memory h e = absurd h
    not_ready (Wire fault) h e = absurd h

    module _ (opened : IsOpen s) (f : Frag) (bare_is : bare f ≡ f) (t : TheEnd) (after : List TheReassembly) where
      leaves_with : (was is : TheReassembly) (fault : EndFault) → takes p (saw f) q → TakesIn (with_parts s was.parts) f (Err fault) (with_parts t is.parts) → Receives takes (with_parts s was.parts) p (Err fault) (with_parts t is.parts) q
      leaves_with was is (Wire fault) sees h = (opened, (f, bare_is, sees, h))
      leaves_with was is Memory sees h = (opened, (f, bare_is, sees, h))
      leaves_with was is Spent sees h = absurd h
      leaves_with was is Busy sees h = absurd h
      leaves_with was is UnknownMessage sees h = absurd h
      leaves_with was is Misfit sees h = absurd h
      leaves_with was is NotBound sees h = absurd h
      leaves_with was is Failed sees h = absurd h

      takes_with : (was is : TheReassembly) (answer : ReceiveAnswer) (m : T) → takes p (saw f) m → takes m (found f) q → TakesIn (with_parts s was.parts) f (Ok answer) (with_parts t is.parts)
          → Receives takes (with_parts s was.parts) p (Ok answer) (with_parts t is.parts) q
      takes_with was is (Handle call) m sees takes_it h = (opened, (f, m, bare_is, sees, takes_it, h))
      takes_with was is Part m sees takes_it h = (opened, (f, m, bare_is, sees, takes_it, h))
      takes_with was is Quiet m sees takes_it h = absurd h
      takes_with was is Empty m sees takes_it h = absurd h
      takes_with was is HeldBack m sees takes_it h = absurd h

      pub leaves_at : (fault : EndFault) → takes p (saw f) q → TakesInAt (taking s f (Err fault) t) calls place after → ReceivesAt takes (receipt s p (Err fault) t q) calls place after
      leaves_at fault sees h = changes_as (TakesInWith (taking s f (Err fault) t)) (ReceivesWith takes (receipt s p (Err fault) t q)) after
          (λ was is of e. record { of = e.of; program = e.program; receives = leaves_with was is fault sees e.takes_in }) h

      pub takes_at : (answer : ReceiveAnswer) (m : T) → takes p (saw f) m → takes m (found f) q → TakesInAt (taking s f (Ok answer) t) calls place after → ReceivesAt takes (receipt s p (Ok answer) t q) calls place after
      takes_at answer m sees takes_it h = changes_as (TakesInWith (taking s f (Ok answer) t)) (ReceivesWith takes (receipt s p (Ok answer) t q)) after
          (λ was is of e. record { of = e.of; program = e.program; receives = takes_with was is answer m sees takes_it e.takes_in }) h
