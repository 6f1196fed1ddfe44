-- Calls under way whose fragments lie in rooms.
use Rattle.std.proofs.Common.{◌≡◌, ℕ, ◌+◌, ◌<◌, ◌≤◌, true, false, List, [], ◌∷◌, ◌++◌, take, length, slice_set, Some, None, refl, sym, ◌∙◌, ap, subst, arith}
use Rattle.std.specs.Prelude.{slice_get, Option}
use Rattle.std.proofs.lemmas.Bool.{false≢true}
use Rattle.std.proofs.lemmas.Option.{none-some}
use Rattle.std.proofs.lemmas.List.{length-append, length-set, length-take-le, take_all, take_more_set, take-set-le}
use Rattle.fl_base.specs.declared.fragment.Frag.{Frag}
use Rattle.fl_base.specs.Control.{bare, message_of}
use Rattle.fl_interface.specs.Interface.{TheMessage}
use Rattle.fl_interface.specs.Limits.{is_within_limits}
use Rattle.fl_value_data.specs.Value.{Datum, TheCall}
use Rattle.fl_value_data.specs.Fits.{fit_message}
use Rattle.fl_layout.specs.Places.{count}
use Rattle.fl_wire.specs.Payload.{frags_of}
use Rattle.fl_wire.proofs.Readings.{count_positive, length_frags}
use Rattle.fl_wire.proofs.Decoding.{prefix_message}
use Rattle.fl_compile.specs.Programs.{TheProgram}
use Rattle.fl_compile_tape.specs.Frags.{HasFrags}
use Rattle.fl_machine.specs.declared.intake.Fed.{Fed}
use Rattle.fl_machine.specs.declared.intake.Fed.TheVariants.{Part}
use Rattle.fl_machine.specs.declared.recv.PartialCall.{PartialCall}
use Rattle.fl_machine.specs.Receiving.{HoldsParts, StandsIn, AddsUpTo, stand_after}
use Rattle.fl_machine.specs.Kept.{counting, IsKeptIn, IsPartIn, EndsCallIn}
use Rattle.fl_machine.specs.Reassembling.{IsUnderWay, GoesOnFrom, parts_under}
use Rattle.fl_machine.proofs.Feeding.{few_messages}
use Rattle.fl_machine.proofs.Looking.{forgotten, kept_length}

-- a room has place for one part more, and for a call's last fragment
pub part_fits : (p : TheProgram) (parts : List Frag) (f : Frag) (d : PartialCall) (n : ℕ) → HoldsParts p.plan p.interface n → IsPartIn p (parts ++ f ∷ []) → IsKeptIn p (parts ++ bare f ∷ []) d → d.fed ≤ n
part_fits p parts f d n holds part k =
    let short = part.short in
    omega (arith, short, holds part.call part.fits, length-append parts (f ∷ []), length-append parts (bare f ∷ []), kept_length p.plan p.interface (parts ++ bare f ∷ []) d k)

pub last_fits : (p : TheProgram) (parts : List Frag) (f : Frag) (n : ℕ) → HoldsParts p.plan p.interface n → EndsCallIn p parts f → length parts < n
last_fits p parts f n holds e =
    omega (arith, holds e.call e.fits, ap length e.frags_are, length_frags p.plan p.interface e.call, length-append parts (bare f ∷ []))

-- one part more
pub record StoredPart (p : TheProgram) (room parts : List Frag) (f : Frag) (d : PartialCall) : Type 0 where
  pub under_way : IsUnderWay p room (Some d)
  pub parts_are : parts_under room (Some d) ≡ parts ++ bare f ∷ []

pub stored_part : (p : TheProgram) (room : List Frag) (o : Option PartialCall) (f g : Frag) (d : PartialCall) (n : ℕ) → IsUnderWay p room o → IsKeptIn p (parts_under room o ++ bare f ∷ []) d
    → n + 1 ≡ d.fed → d.fed ≤ length room → g ≡ bare f → StoredPart p (slice_set room n g) (parts_under room o) f d
stored_part p room o f g d n under k next within is =
    let parts = parts_under room o in
    let long : length parts ≡ n = omega (arith, kept_length p.plan p.interface (parts ++ bare f ∷ []) d k, length-append parts (bare f ∷ []), next) in
    let before : take n room ≡ parts = by_under o under long in
    let shown : take d.fed (slice_set room n g) ≡ parts ++ bare f ∷ []
    = ap (λ (m : ℕ). take m (slice_set room n g)) (sym next) ∙ take_more_set room n g (omega (arith, next, within))
    ∙ ap (λ (fs : List Frag). fs ++ g ∷ []) before ∙ ap (λ (h : Frag). parts ++ h ∷ []) is in
    record {
      under_way = (omega (arith, within, length-set room n g), subst (λ (fs : List Frag). IsKeptIn p fs d) (sym shown) k);
      parts_are = shown;
    }
  where
    by_under : (x : Option PartialCall) → IsUnderWay p room x → length (parts_under room x) ≡ n → take n room ≡ parts_under room x
    by_under None u e = ap (λ (m : ℕ). take m room) (sym e)
    by_under (Some b) u e = ap (λ (m : ℕ). take m room) (sym e ∙ length-take-le b.fed room u.0)

-- the call's last fragment, which stays in the room behind the parts
pub record StoredLast (p : TheProgram) (room after : List Frag) (b : PartialCall) : Type 0 where
  pub under_way : IsUnderWay p after (Some b)
  pub parts_are : parts_under after (Some b) ≡ parts_under room (Some b)

pub stored_last : (p : TheProgram) (room : List Frag) (g : Frag) (b : PartialCall) (n : ℕ) → IsUnderWay p room (Some b) → n ≡ b.fed → StoredLast p room (slice_set room n g) b
stored_last p room g b n under is =
    let same : take b.fed (slice_set room n g) ≡ take b.fed room = take-set-le b.fed room n g (omega (arith, is)) in
    record {
      under_way = (omega (arith, under.0, length-set room n g), subst (λ (fs : List Frag). IsKeptIn p fs b) (sym same) under.1);
      parts_are = same;
    }

-- all fragments of the call
pub whole_frags : (p : TheProgram) (room : List Frag) (f g : Frag) (b : PartialCall) (n : ℕ) → n ≡ b.fed → g ≡ bare f → b.fed < length room → (e : EndsCallIn p (parts_under room (Some b)) f)
    → HasFrags p e.call.msg (take (n + 1) (slice_set room n g)) e.call
whole_frags p room f g b n at is within e = record {
  message = refl;
  fits = e.fits;
  frags_are = take_more_set room n g (omega (arith, at, within)) ∙ ap (λ (m : ℕ). take m room ++ g ∷ []) at
      ∙ ap (λ (h : Frag). take b.fed room ++ h ∷ []) is ∙ e.frags_are;
}

-- a call that fits is one of a message
named_message : (o : Option TheMessage) (ds : List Datum) → fit_message o ds ≡ true → (m : TheMessage) × (o ≡ Some m)
named_message None ds h = absurd (false≢true h)
named_message (Some m) ds h = (m, refl)

-- a call's fragments are at least one
pub no_first : (p : TheProgram) (frags : List Frag) → None ≡ slice_get frags 0 → ((c : TheCall) × HasFrags p c.msg frags c) → ⊥
no_first p [] none (c, has) = absurd (omega (arith, count_positive p.plan p.interface c, ap length has.frags_are, length_frags p.plan p.interface c))
no_first p (f ∷ fs) none has = none-some f none

-- they are of the message that the first one tells
pub frags_told : (p : TheProgram) (frags : List Frag) (f : Frag) (msg : ℕ) (c : TheCall) → is_within_limits p.interface ≡ true → Some f ≡ slice_get frags 0 → msg ≡ message_of f.control → HasFrags p c.msg frags c
    → HasFrags p msg frags c
frags_told p frags f msg c within here told has =
    let n = count p.plan p.interface c in
    let (m, named) = named_message (slice_get p.interface.messages c.msg) c.args has.fits in
    let all : take n (frags_of p.plan p.interface c) ≡ frags_of p.plan p.interface c = take_all n (frags_of p.plan p.interface c) (omega (arith, length_frags p.plan p.interface c)) in
    let message : message_of f.control ≡ c.msg
    = prefix_message p.plan p.interface c n frags f (omega arith) (has.frags_are ∙ sym all) (count_positive p.plan p.interface c) (few_messages p.interface c.msg m within named) here in
    record { message = sym (told ∙ message); fits = has.fits; frags_are = has.frags_are }

-- ---- the first fragment of a call that goes on

pub first_part : (p : TheProgram) (tape : List ℕ) (room : List Frag) (o : Option PartialCall) (f : Frag) (b d : PartialCall) (fed : Fed) → o ≡ None → fed ≡ Part
    → StandsIn p tape (stand_after b fed) → AddsUpTo p [] f tape (stand_after b fed) → d ≡ counting 0 b → GoesOnFrom p room o f d
first_part p tape room o f b d fed none part stands adds forgets =
    let s = subst (λ (x : Fed). StandsIn p tape (stand_after b x)) part stands in
    let a = subst (λ (x : Fed). AddsUpTo p [] f tape (stand_after b x)) part adds in
    let k = forgotten p.plan p.interface tape b s.0 s.1 in
    let kept : IsKeptIn p (bare f ∷ []) d = subst (λ (x : PartialCall). IsKeptIn p (bare f ∷ []) x) (sym forgets) (subst (λ (fs : List Frag). IsKeptIn p fs (counting 0 b)) a.parts_are k) in
    subst (λ (x : Option PartialCall). GoesOnFrom p room x f d) (sym none) (record { under_way = tt; part = a.part; kept = kept })
