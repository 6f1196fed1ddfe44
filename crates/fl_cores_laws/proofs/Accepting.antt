-- What came over from an end is of the calls that it accepted: of those that wait nothing was put.
use Rattle.std.proofs.Common.{◌≡◌, refl, sym, ap, ◌∙◌, subst, ℕ, zero, suc, ◌+◌, ◌-◌, ◌<◌, ◌/◌, ◌%◌, ◌==◌, if◌then◌else◌, Bool, true, false, List, [], ◌∷◌, ◌++◌, length, map, take, arith}
use Rattle.std.specs.List.{flat_map, range_with_len}
use Rattle.std.proofs.lemmas.Bool.Decides.{nat_tests}
use Rattle.std.proofs.lemmas.List.{append-nil, append_assoc, length-map, take-map}
use Rattle.std.proofs.lemmas.List.Elements.{All-take}
use Rattle.fl_base.specs.declared.fragment.Frag.{Frag}
use Rattle.fl_base.specs.Control.{control_word, first_of}
use Rattle.fl_base.specs.Prefix.{IsPrefix}
use Rattle.fl_value_data.specs.Value.{TheCall}
use Rattle.fl_value_data.specs.Fits.{fits_of}
use Rattle.fl_wire.specs.Payload.{payload_of, frag_on, frags_on}
use Rattle.fl_wire.proofs.Readings.{count_positive}
use Rattle.fl_compile.specs.Programs.{TheProgram, program_of}
use Rattle.fl_endpoint.specs.View.{TheEnd, TheOutgoing, interface_in, frags_from, number_or_0}
use Rattle.fl_endpoint.specs.Accounts.{Sound, IsLeft, stream_from}
use Rattle.fl_core_run.specs.Accepted.{accepted_of}
use Rattle.fl_core_run.proofs.Accepting.{none_accepted}
use Rattle.fl_core_run_laws.specs.Carried.{Traffic, left_to_put}
use Rattle.fl_core_run_laws.specs.Agree.{SinceMade, Arrived, EndsAgree}

-- ---- a call's fragments: the first says that it is, and no other does

abbrev NoneFirst : List Frag → Type 0
NoneFirst [] = Unit {0}
NoneFirst (f ∷ fs) = (first_of f.control ≡ false) × NoneFirst fs

abbrev IsCall : List Frag → Type 0
IsCall [] = ⊥
IsCall (f ∷ fs) = (first_of f.control ≡ true) × NoneFirst fs

abbrev AreCalls : List (List Frag) → Type 0
AreCalls [] = Unit {0}
AreCalls (x ∷ xs) = IsCall x × AreCalls xs

first_odd : (msg circuit : ℕ) → control_word true msg circuit / 2 % 2 ≡ 1
first_odd msg circuit = omega arith

other_even : (msg circuit : ℕ) → control_word false msg circuit / 2 % 2 ≡ 0
other_even msg circuit = omega arith

first_says : (msg circuit : ℕ) → first_of (control_word true msg circuit) ≡ true
first_says msg circuit = ap (λ (n : ℕ). n == 1) (first_odd msg circuit)

other_says : (msg circuit : ℕ) → first_of (control_word false msg circuit) ≡ false
other_says msg circuit = ap (λ (n : ℕ). n == 1) (other_even msg circuit)

not_zero : (n : ℕ) → (suc n == 0) ≡ false
not_zero n = grind (arith, nat_tests)

others : (circuit msg : ℕ) (bytes : List ℕ) (k n : ℕ) → 0 < k → NoneFirst (map (frag_on circuit msg bytes) (range_with_len k n))
others circuit msg bytes k zero some = tt
others circuit msg bytes zero (suc n) some = absurd (omega (arith, some))
others circuit msg bytes (suc k) (suc n) some = (
  ap (λ (b : Bool). first_of (control_word b msg circuit)) (not_zero k) ∙ other_says msg circuit,
  others circuit msg bytes (suc k + 1) n (omega arith),
)

call_by : (circuit msg : ℕ) (bytes : List ℕ) (n : ℕ) → 0 < n → IsCall (map (frag_on circuit msg bytes) (range_with_len 0 n))
call_by circuit msg bytes zero some = absurd (omega (arith, some))
call_by circuit msg bytes (suc n) some = (first_says msg circuit, others circuit msg bytes (0 + 1) n (omega arith))

are_calls : (circuit : ℕ) (p : TheProgram) (cs : List TheCall) → AreCalls (map (frags_on circuit p.plan p.interface) cs)
are_calls circuit p [] = tt
are_calls circuit p (c ∷ cs) = (
  call_by circuit c.msg (payload_of p.plan p.interface c) _ (count_positive p.plan p.interface c),
  are_calls circuit p cs,
)

-- ---- so fragments are those of as many calls as have a first one

abbrev all : List (List Frag) → List Frag
all xs = flat_map (λ (frags : List Frag). frags) xs

abbrev firsts : List Frag → ℕ
firsts [] = 0
firsts (f ∷ fs) = if first_of f.control then suc (firsts fs) else firsts fs

firsts_behind : (gs rest : List Frag) → NoneFirst gs → firsts (gs ++ rest) ≡ firsts rest
firsts_behind [] rest none = refl
firsts_behind (g ∷ gs) rest none =
    ap (λ (b : Bool). if b then suc (firsts (gs ++ rest)) else firsts (gs ++ rest)) none.0 ∙ firsts_behind gs rest none.1

firsts_are : (xs : List (List Frag)) → AreCalls xs → firsts (all xs) ≡ length xs
firsts_are [] are = refl
firsts_are ([] ∷ xs) are = absurd are.0
firsts_are ((g ∷ gs) ∷ xs) are =
    ap (λ (b : Bool). if b then suc (firsts (gs ++ all xs)) else firsts (gs ++ all xs)) are.0.0
    ∙ ap suc (firsts_behind gs (all xs) are.0.1 ∙ firsts_are xs are.1)

same_first : (f g : Frag) (fs gs : List Frag) → f ∷ fs ≡ g ∷ gs → f ≡ g
same_first f g fs gs same = cc

same_rest : (f g : Frag) (fs gs : List Frag) → f ∷ fs ≡ g ∷ gs → fs ≡ gs
same_rest f g fs gs same = cc

no_first : (f g : Frag) → f ≡ g → first_of f.control ≡ false → first_of g.control ≡ true → ⊥
no_first f g same one two = let clash : false ≡ true = sym one ∙ ap (λ (x : Frag). first_of x.control) same ∙ two in absurd (cc)

-- the others of a call that has begun are there before the next call
strip : (gs p rest : List Frag) (ys : List (List Frag)) → NoneFirst gs → AreCalls ys → gs ++ rest ≡ p ++ all ys
    → (q : List Frag) × (p ≡ gs ++ q) × (rest ≡ q ++ all ys)
strip [] p rest ys none are same = (p, refl, same)
strip (g ∷ gs) [] rest [] none are same = absurd (cc)
strip (g ∷ gs) [] rest ([] ∷ ys) none are same = absurd are.0
strip (g ∷ gs) [] rest ((h ∷ hs) ∷ ys) none are same =
    absurd (no_first g h (same_first g h (gs ++ rest) (hs ++ all ys) same) none.0 are.0.0)
strip (g ∷ gs) (f ∷ p) rest ys none are same =
    let one : g ≡ f = same_first g f (gs ++ rest) (p ++ all ys) same in
    let (q, is, behind) = strip gs p rest ys none.1 are (same_rest g f (gs ++ rest) (p ++ all ys) same) in
    (q, ap (λ (xs : List Frag). f ∷ xs) is ∙ ap (λ (x : Frag). x ∷ (gs ++ q)) (sym one), behind)

-- what stands before the last calls are those before them
record Parted (xs ys : List (List Frag)) (p : List Frag) : Type 0 where
  pub number : ℕ
  pub long : length xs ≡ number + length ys
  pub before : all (take number xs) ≡ p

parted : (p : List Frag) (xs ys : List (List Frag)) → AreCalls xs → AreCalls ys → all xs ≡ p ++ all ys → Parted xs ys p
parted [] xs ys are them same =
    let long : length xs ≡ length ys = sym (firsts_are xs are) ∙ ap firsts same ∙ firsts_are ys them in
    record { number = 0; long = omega (arith, long); before = refl }
parted (f ∷ p) [] ys are them same = absurd (cc)
parted (f ∷ p) ([] ∷ xs) ys are them same = absurd are.0
parted (f ∷ p) ((g ∷ gs) ∷ xs) ys are them same =
    let one : g ≡ f = same_first g f (gs ++ all xs) (p ++ all ys) same in
    let (q, is, behind) = strip gs p (all xs) ys are.0.1 them (same_rest g f (gs ++ all xs) (p ++ all ys) same) in
    let rest = parted q xs ys are.1 them behind in
    let long = rest.long in
    record {
      number = suc rest.number;
      long = omega (arith, long);
      before = ap (λ (x : Frag). x ∷ (gs ++ all (take rest.number xs))) one
          ∙ ap (λ (zs : List Frag). f ∷ (gs ++ zs)) rest.before
          ∙ ap (λ (zs : List Frag). f ∷ zs) (sym is);
    }

-- ---- an end, since it was made

waits_by : (frags : TheCall → List Frag) (number : ℕ) (calls : List TheCall) (o : TheOutgoing) → IsLeft frags number calls o
    → (waits : List TheCall) × (o.waiting ≡ map frags waits)
waits_by frags number [] o left = ([], ap (λ (x : TheOutgoing). x.waiting) left)
waits_by frags number (c ∷ waits) o left = (waits, ap (λ (x : TheOutgoing). x.waiting) left.1)

one_by_one : (frags : TheCall → List Frag) (cs : List TheCall) → all (map frags cs) ≡ flat_map frags cs
one_by_one frags [] = refl
one_by_one frags (c ∷ cs) = ap (λ (zs : List Frag). frags c ++ zs) (one_by_one frags cs)

-- what it put, and what is left of the call in transmission, are the fragments of what it accepted
put_accepted : (d : Traffic) (x : TheEnd) → SinceMade d x → Sound x
    → stream_from x (accepted_of (length x.outgoing.waiting) d.sent) ≡ d.put ++ x.outgoing.unwritten
put_accepted d x since sound =
    let frags = frags_on (number_or_0 x.circuit) (program_of x.program).plan (program_of x.program).interface in
    let waiting = x.outgoing.waiting in
    let waits = waits_by (frags_from x) sound.sends.number sound.sends.calls x.outgoing sound.sends.left in
    let put : stream_from x d.sent ≡ d.put ++ left_to_put x.outgoing =
    subst (λ (o : TheOutgoing). left_to_put o ++ stream_from x d.sent ≡ d.put ++ left_to_put x.outgoing) since.outgoing since.goes.sends in
    let whole : all (map frags d.sent) ≡ (d.put ++ x.outgoing.unwritten) ++ all waiting =
    one_by_one frags d.sent ∙ put ∙ sym (append_assoc d.put x.outgoing.unwritten (all waiting)) in
    let one = parted (d.put ++ x.outgoing.unwritten) (map frags d.sent) waiting (are_calls (number_or_0 x.circuit) (program_of x.program) d.sent)
    (subst AreCalls (sym waits.1) (are_calls (number_or_0 x.circuit) (program_of x.program) waits.0)) whole in
    let long = one.long in
    let as_many : length (map frags d.sent) ≡ length d.sent = length-map d.sent frags in
    let number : length d.sent - length waiting ≡ one.number = omega (arith, long, as_many) in
    sym (one_by_one frags (accepted_of (length waiting) d.sent))
    ∙ ap all (sym (take-map frags (length d.sent - length waiting) d.sent))
    ∙ ap (λ (n : ℕ). all (take n (map frags d.sent))) number
    ∙ one.before

-- so it did the same as an end that came to send these alone, and at which none wait
abbrev none_waiting : TheEnd → TheEnd
none_waiting x = record x { outgoing = record { unwritten = x.outgoing.unwritten; count = x.outgoing.count; waiting = [] } }

abbrev of_accepted : Traffic → TheEnd → Traffic
of_accepted d x = record d { sent = accepted_of (length x.outgoing.waiting) d.sent }

since_accepted : (d : Traffic) (x : TheEnd) → SinceMade d x → Sound x → SinceMade (of_accepted d x) (none_waiting x)
since_accepted d x since sound = record {
  began = since.began;
  sound = since.sound;
  outgoing = since.outgoing;
  parts = since.parts;
  goes = record {
    sends = subst (λ (o : TheOutgoing). left_to_put o ++ stream_from x (of_accepted d x).sent ≡ d.put ++ (x.outgoing.unwritten ++ []))
        (sym since.outgoing) (put_accepted d x since sound ∙ ap (λ (zs : List Frag). d.put ++ zs) (sym (append-nil x.outgoing.unwritten)));
    gives = since.goes.gives;
    program = since.goes.program;
    sent_fit = All-take (λ (c : TheCall). fits_of (interface_in x) c ≡ true) (length d.sent - length x.outgoing.waiting) d.sent since.goes.sent_fit;
    handled_fit = since.goes.handled_fit;
    circuit = since.goes.circuit;
    unbound = λ none. none_accepted (length x.outgoing.waiting) d.sent (since.goes.unbound none);
  };
  number = since.number;
}

-- where what one end took is the first of what the other put, what it handled is the first of what that accepted
pub agree_accepted : EndsAgree → (d e : Traffic) (x y : TheEnd) → SinceMade d x → Sound x → SinceMade e y → program_of y.program ≡ program_of x.program
    → Arrived e.took d.put → IsPrefix e.handled (accepted_of (length x.outgoing.waiting) d.sent)
agree_accepted agree d e x y sender sound taker same arrived =
    agree (of_accepted d x) e (none_waiting x) y (since_accepted d x sender sound) taker same arrived
