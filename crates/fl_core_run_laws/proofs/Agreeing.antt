-- What one end handled is the first of what the other sent.
use Rattle.std.proofs.Common.{◌≡◌, refl, sym, ap, ◌∙◌, subst, ℕ, zero, suc, ◌^◌, ◌<◌, ◌==◌, Bool, true, false, List, [], ◌∷◌, ◌++◌, map, length, arith}
use Rattle.std.specs.Prelude.{slice_get}
use Rattle.std.specs.List.{range_with_len}
use Rattle.std.proofs.lemmas.List.{map-append, append-nil, append_assoc}
use Rattle.std.proofs.lemmas.List.Elements.{All-head, All-tail}
use Rattle.std.proofs.lemmas.Bool.{and_parts, leb-true, false≢true}
use Rattle.fl_base.specs.declared.fragment.Frag.{Frag}
use Rattle.fl_base.specs.Control.{control_word, body, bare, with_circuit}
use Rattle.fl_interface.specs.Interface.{TheMessage, TheInterface}
use Rattle.fl_interface.specs.Limits.{is_within_limits}
use Rattle.fl_value_data.specs.Value.{Datum, TheCall}
use Rattle.fl_value_data.specs.Fits.{fits_of, fit_message}
use Rattle.fl_layout.specs.Places.{count}
use Rattle.fl_wire.specs.Payload.{payload_of, frag_on, frags_on}
use Rattle.fl_wire.specs.Reading.{AllFit}
use Rattle.fl_compile.specs.declared.program.Program.{Program}
use Rattle.fl_compile.specs.Programs.{TheProgram, program_of}
use Rattle.fl_hop.specs.OfCircuit.{as_carried}
use Rattle.fl_endpoint.specs.View.{TheEnd, TheOutgoing, interface_in, number_or_0, fresh}
use Rattle.fl_endpoint.specs.Accounts.{Account, EndHistory, stream, stream_from}
use Rattle.fl_endpoint.specs.Laws.{HandlesInOrder, OnAnotherCircuit}
use Rattle.fl_core_run_laws.specs.Carried.{Traffic, left_to_put}
use Rattle.fl_core_run_laws.specs.Agree.{SinceMade, EndsAgree, CarriedOffLinks}
use Rattle.fl_core_run_laws.proofs.EndGoing.{none_fit}

-- ---- fragments of calls are bare

known : (ms : List TheMessage) (n : ℕ) (ds : List Datum) → fit_message (slice_get ms n) ds ≡ true → n < length ms
known [] n ds h = absurd (false≢true h)
known (m ∷ ms) zero ds h = omega arith
known (m ∷ ms) (suc n) ds h = omega (arith, known ms n ds h)

small_message : (i : TheInterface) (c : TheCall) → is_within_limits i ≡ true → fits_of i c ≡ true → c.msg < 2 ^ 16
small_message i c within fits =
    let few = leb-true (length i.messages) 256 (and_parts _ _ within).0 in
    let less = known i.messages c.msg c.args fits in
    omega (arith, few, less)

bare_word : (first : Bool) (msg : ℕ) → msg < 2 ^ 16 → body (control_word first msg 0) ≡ control_word first msg 0
bare_word true msg m = omega (arith, m)
bare_word false msg m = omega (arith, m)

bare_each : (f : ℕ → Frag) (ks : List ℕ) → ((k : ℕ) → bare (f k) ≡ f k) → map bare (map f ks) ≡ map f ks
bare_each f [] e = refl
bare_each f (k ∷ ks) e = ap (λ (x : Frag). x ∷ map bare (map f ks)) (e k) ∙ ap (λ (xs : List Frag). f k ∷ xs) (bare_each f ks e)

bare_call : (p : TheProgram) (c : TheCall) → is_within_limits p.interface ≡ true → fits_of p.interface c ≡ true
    → map bare (frags_on 0 p.plan p.interface c) ≡ frags_on 0 p.plan p.interface c
bare_call p c within fits =
    bare_each (frag_on 0 c.msg (payload_of p.plan p.interface c)) (range_with_len 0 (count p.plan p.interface c))
    (λ k. ap (λ (w : ℕ). record { words = (frag_on 0 c.msg (payload_of p.plan p.interface c) k).words; control = w })
    (bare_word (k == 0) c.msg (small_message p.interface c within fits)))

bare_stream : (p : TheProgram) (calls : List TheCall) → is_within_limits p.interface ≡ true → AllFit p.interface calls
    → map bare (stream p 0 calls) ≡ stream p 0 calls
bare_stream p [] within fit = refl
bare_stream p (c ∷ calls) within fit =
    map-append bare (frags_on 0 p.plan p.interface c) (stream p 0 calls)
    ∙ ap (λ (xs : List Frag). xs ++ map bare (stream p 0 calls)) (bare_call p c within (All-head (λ (d : TheCall). fits_of p.interface d ≡ true) c calls fit))
    ∙ ap (λ (xs : List Frag). frags_on 0 p.plan p.interface c ++ xs) (bare_stream p calls within (All-tail (λ (d : TheCall). fits_of p.interface d ≡ true) c calls fit))

map_twice : (xs : List Frag) → map as_carried xs ≡ map bare (map (with_circuit 0) xs)
map_twice [] = refl
map_twice (x ∷ xs) = ap (λ (ys : List Frag). as_carried x ∷ ys) (map_twice xs)

-- of two lists that are the same so done and so, the first parts are
first_same : (f g : Frag → Frag) (xs ys : List Frag) → map f (xs ++ ys) ≡ map g (xs ++ ys) → map f xs ≡ map g xs
first_same f g [] ys same = refl
first_same f g (x ∷ xs) ys same =
    let one : f x ≡ g x = cc in
    let more : map f (xs ++ ys) ≡ map g (xs ++ ys) = cc in
    ap (λ (z : Frag). z ∷ map f xs) one ∙ ap (λ (zs : List Frag). g x ∷ zs) (first_same f g xs ys more)

-- ---- what an end did since it was made

within : (d : Traffic) (x : TheEnd) → SinceMade d x → is_within_limits (interface_in x) ≡ true
within d x since = ap (λ (p : Program). is_within_limits (program_of p).interface) since.goes.program ∙ since.sound.within

-- what was put, and what is left to put, are the fragments of what was sent
all_put : (d : Traffic) (x : TheEnd) → SinceMade d x → stream_from x d.sent ≡ d.put ++ left_to_put x.outgoing
all_put d x since = subst (λ (o : TheOutgoing). left_to_put o ++ stream_from x d.sent ≡ d.put ++ left_to_put x.outgoing) since.outgoing since.goes.sends

-- it took the fragments of what it handled, and a rest
all_taken : (e : Traffic) (y : TheEnd) (s : SinceMade e y) → e.took ≡ stream (program_of s.began.program) 0 e.handled ++ y.parts
all_taken e y s =
    ap (λ (xs : List Frag). xs ++ e.took) (sym s.parts) ∙ s.goes.gives
    ∙ ap (λ (p : Program). stream (program_of p) 0 e.handled ++ y.parts) s.goes.program

abbrev read_of : (e : Traffic) (y : TheEnd) → SinceMade e y → EndHistory
read_of e y s = record { accepted = []; put = []; took = stream (program_of s.began.program) 0 e.handled; handled = e.handled; due = [] }

account : (e : Traffic) (y : TheEnd) (s : SinceMade e y) → Account (fresh s.began.program s.began.circuit) (read_of e y s) s.began
account e y s = record {
  program = refl;
  failed = λ no. absurd (false≢true no);
  circuit = λ c is. is;
  unbound = λ none. (refl, refl);
  accepted_fit = none_fit (interface_in s.began);
  sends = ap (λ (o : TheOutgoing). o.unwritten) (sym s.outgoing);
  waits = ap (λ (o : TheOutgoing). o.waiting) (sym s.outgoing);
  handled_fit = subst (λ (p : Program). AllFit (program_of p).interface e.handled) s.goes.program s.goes.handled_fit;
  gives = sym (append-nil (stream (program_of s.began.program) 0 e.handled)) ∙ ap (λ (xs : List Frag). stream (program_of s.began.program) 0 e.handled ++ xs) (sym s.parts);
}

module _ (in_order : HandlesInOrder) (on_another : OnAnotherCircuit) where
  -- what was sent, as it is carried: on circuit 0
  carried : (d : Traffic) (x : TheEnd) → SinceMade d x → map as_carried (stream_from x d.sent) ≡ stream (program_of x.program) 0 d.sent
  carried d x since =
      map_twice (stream_from x d.sent)
      ∙ ap (map bare) (on_another (program_of x.program) (number_or_0 x.circuit) 0 d.sent since.number (within d x since) since.goes.sent_fit)
      ∙ bare_stream (program_of x.program) d.sent (within d x since) since.goes.sent_fit

  all_carried : (d : Traffic) (x : TheEnd) → SinceMade d x → stream (program_of x.program) 0 d.sent ≡ map as_carried d.put ++ map as_carried (left_to_put x.outgoing)
  all_carried d x since = sym (carried d x since) ∙ ap (map as_carried) (all_put d x since) ∙ map-append as_carried d.put (left_to_put x.outgoing)

  pub agree : EndsAgree
  agree d e x y sender taker same arrived =
      let own : program_of taker.began.program ≡ program_of x.program = ap program_of (sym taker.goes.program) ∙ same in
      let ahead : stream (program_of taker.began.program) 0 e.handled ++ (y.parts ++ (arrived.0 ++ map as_carried (left_to_put x.outgoing)))
      ≡ stream (program_of taker.began.program) 0 d.sent =
      sym (append_assoc (stream (program_of taker.began.program) 0 e.handled) y.parts (arrived.0 ++ map as_carried (left_to_put x.outgoing)))
      ∙ ap (λ (xs : List Frag). xs ++ (arrived.0 ++ map as_carried (left_to_put x.outgoing))) (sym (all_taken e y taker))
      ∙ sym (append_assoc e.took arrived.0 (map as_carried (left_to_put x.outgoing)))
      ∙ ap (λ (xs : List Frag). xs ++ map as_carried (left_to_put x.outgoing)) (sym arrived.1)
      ∙ sym (all_carried d x sender)
      ∙ ap (λ (p : TheProgram). stream p 0 d.sent) (sym own) in
      let fit : AllFit (interface_in taker.began) d.sent = subst (λ (p : TheProgram). AllFit p.interface d.sent) (sym own) sender.goes.sent_fit in
      let taken = in_order taker.began.program taker.began.circuit taker.began (read_of e y taker) d.sent (y.parts ++ (arrived.0 ++ map as_carried (left_to_put x.outgoing)))
      taker.sound (account e y taker) fit ahead in
      (taken.left, taken.calls_are)

  pub off_links : CarriedOffLinks
  off_links d x since zero_is =
      let whole : stream_from x d.sent ≡ stream (program_of x.program) 0 d.sent = ap (λ (c : ℕ). stream (program_of x.program) c d.sent) zero_is in
      first_same as_carried bare d.put (left_to_put x.outgoing)
      (ap (map as_carried) (sym (all_put d x since)) ∙ carried d x since
      ∙ sym (bare_stream (program_of x.program) d.sent (within d x since) since.goes.sent_fit)
      ∙ ap (map bare) (sym whole) ∙ ap (map bare) (all_put d x since))
