-- Reply rules: whether two messages have the same argument types.
use Rattle.std.proofs.Common.{◌≡◌, refl, sym, ◌∙◌, ap, subst, ℕ, zero, suc, ◌<◌, ◌==◌, ◌&&◌, Bool, true, false, List, [], ◌∷◌, Option, Some, is_some, slice_get, slice_set, length, arith}
use Rattle.std.specs.Prelude.{Result, Ok, Err}
use Rattle.std.proofs.lemmas.Bool.{eqb-true}
use Rattle.std.proofs.lemmas.Bool.Decides.{nat_tests}
use Rattle.fl_interface.specs.declared.interface.Scalar.{Scalar}
use Rattle.fl_interface.specs.declared.interface.Scalar.TheVariants.{Uint8, Int8, Bool as Flag, Char, Uint16}
use Rattle.fl_interface.specs.declared.interface.Scalar.TheVariants.{Int16, Uint32, Int32, Iref, Uint64, Int64}
use Rattle.fl_interface.specs.declared.interface.Scalar.TheVariants.{Uintptr, Intptr, Size, Errval}
use Rattle.fl_interface.specs.Interface.{TheType, scalar, enumeration, structure, array, TheTypes, no_more, field}
use Rattle.fl_interface.specs.Interface.{TheArgType, fixed, text, sized, TheInterface}
use Rattle.fl_endpoint.specs.declared.fault.EndFault.{EndFault}
use Rattle.fl_endpoint.specs.declared.fault.EndFault.TheVariants.{UnknownMessage, Misfit}
use Rattle.fl_endpoint.specs.View.{TheEnd, interface_in}
use Rattle.fl_endpoint.specs.Events.{SetsRule, IsMessage, SameTypes}
use Rattle.fl_model.specs.Calls.{Planned}
use Rattle.fl_interface.specs.SameTypes.{scalar_number, same_type, same_fields, same_argument, same_arguments}
use Rattle.fl_model.specs.Ends.{Direction, End, with_rule}
use Rattle.fl_model.specs.Taking.{has_message, arguments_of}
use Rattle.fl_world_refines.specs.Ends.{EndShows}
use Rattle.fl_world_refines.specs.EndLaws.{are_messages, have_same_arguments, RuleAgrees, RuleShows}
use Rattle.fl_world_refines.proofs.Tests.{lt_true, true_lt}
use Rattle.fl_world_refines.proofs.EndCalling.{stays, same_interface, some_within}

-- ---- equal types

both_are : (a b : Bool) → a ≡ true → b ≡ true → (a && b) ≡ true
both_are a b p q = ap (λ (t : Bool). t && b) p ∙ q

both : (a b : Bool) → (a && b) ≡ true → (a ≡ true) × (b ≡ true)
both true b h = (refl, h)
both false b h = absurd (cc)

abbrev scalars : List Scalar
scalars = Uint8 ∷ Int8 ∷ Flag ∷ Char ∷ Uint16 ∷ Int16 ∷ Uint32 ∷ Int32 ∷ Iref ∷ Uint64 ∷ Int64 ∷ Uintptr ∷ Intptr ∷ Size ∷ Errval ∷ []

numbered : (s : Scalar) → slice_get scalars (scalar_number s) ≡ Some s
numbered Uint8 = refl
numbered Int8 = refl
numbered Flag = refl
numbered Char = refl
numbered Uint16 = refl
numbered Int16 = refl
numbered Uint32 = refl
numbered Int32 = refl
numbered Iref = refl
numbered Uint64 = refl
numbered Int64 = refl
numbered Uintptr = refl
numbered Intptr = refl
numbered Size = refl
numbered Errval = refl

same_scalar_is : (s t : Scalar) → (scalar_number s == scalar_number t) ≡ true → s ≡ t
same_scalar_is s t h =
    let e : Some s ≡ Some t = sym (numbered s) ∙ ap (slice_get scalars) (eqb-true (scalar_number s) (scalar_number t) h) ∙ numbered t in cc

mutual
  same_type_is : (t u : TheType) → same_type t u ≡ true → t ≡ u
  same_type_is (scalar s) (scalar t) h = ap scalar (same_scalar_is s t h)
  same_type_is (enumeration m) (enumeration n) h = ap enumeration (eqb-true m n h)
  same_type_is (structure ts) (structure us) h = ap structure (same_fields_are ts us h)
  same_type_is (array m t) (array n u) h =
      let p = both (m == n) (same_type t u) h in
      ap (λ k. array k t) (eqb-true m n p.0) ∙ ap (array n) (same_type_is t u p.1)
  same_type_is t u h = absurd (cc)

  same_fields_are : (ts us : TheTypes) → same_fields ts us ≡ true → ts ≡ us
  same_fields_are no_more no_more h = refl
  same_fields_are (field t ts) (field u us) h =
      let p = both (same_type t u) (same_fields ts us) h in
      ap (λ x. field x ts) (same_type_is t u p.0) ∙ ap (field u) (same_fields_are ts us p.1)
  same_fields_are ts us h = absurd (cc)

same_argument_is : (a b : TheArgType) → same_argument a b ≡ true → a ≡ b
same_argument_is (fixed t) (fixed u) h = ap fixed (same_type_is t u h)
same_argument_is (text m) (text n) h = ap text (eqb-true m n h)
same_argument_is (sized m t) (sized n u) h =
    let p = both (m == n) (same_type t u) h in
    ap (λ k. sized k t) (eqb-true m n p.0) ∙ ap (sized n) (same_type_is t u p.1)
same_argument_is a b h = absurd (cc)

same_arguments_are : (as_ bs : List TheArgType) → same_arguments as_ bs ≡ true → as_ ≡ bs
same_arguments_are [] [] h = refl
same_arguments_are (a ∷ as_) (b ∷ bs) h =
    let p = both (same_argument a b) (same_arguments as_ bs) h in
    ap (λ x. x ∷ as_) (same_argument_is a b p.0) ∙ ap (λ xs. b ∷ xs) (same_arguments_are as_ bs p.1)
same_arguments_are as_ bs h = absurd (cc)

eqb_refl : (n : ℕ) → (n == n) ≡ true
eqb_refl n = grind (arith, nat_tests)

mutual
  type_same : (t : TheType) → same_type t t ≡ true
  type_same (scalar s) = eqb_refl (scalar_number s)
  type_same (enumeration m) = eqb_refl m
  type_same (structure ts) = fields_same ts
  type_same (array m t) = both_are (m == m) (same_type t t) (eqb_refl m) (type_same t)

  fields_same : (ts : TheTypes) → same_fields ts ts ≡ true
  fields_same no_more = refl
  fields_same (field t ts) = both_are (same_type t t) (same_fields ts ts) (type_same t) (fields_same ts)

argument_same : (a : TheArgType) → same_argument a a ≡ true
argument_same (fixed t) = type_same t
argument_same (text m) = eqb_refl m
argument_same (sized m t) = both_are (m == m) (same_type t t) (eqb_refl m) (type_same t)

arguments_same : (as_ : List TheArgType) → same_arguments as_ as_ ≡ true
arguments_same [] = refl
arguments_same (a ∷ as_) = both_are (same_argument a a) (same_arguments as_ as_) (argument_same a) (arguments_same as_)

-- ---- messages

is_there : {X : Type 0} (xs : List X) (n : ℕ) → n < length xs → is_some (slice_get xs n) ≡ true
is_there [] n h = absurd (omega (arith, h))
is_there (x ∷ xs) zero h = refl
is_there (x ∷ xs) (suc n) h = is_there xs n (omega (arith, h))

message_is : (i : Planned) (x : End) (peer : Direction) (s : TheEnd) (msg : ℕ) → EndShows i x peer s → IsMessage (interface_in s) msg → has_message msg i ≡ true
message_is i x peer s msg h a =
    lt_true msg (length i.interface.messages)
    (some_within i.interface.messages msg (subst (λ (j : TheInterface). IsMessage j msg) (same_interface i x peer s h) a))

message_was : (i : Planned) (x : End) (peer : Direction) (s : TheEnd) (msg : ℕ) → EndShows i x peer s → has_message msg i ≡ true → IsMessage (interface_in s) msg
message_was i x peer s msg h a =
    subst (λ (j : TheInterface). IsMessage j msg) (sym (same_interface i x peer s h))
    (is_there i.interface.messages msg (true_lt msg (length i.interface.messages) a))

types_are : (i : Planned) (x : End) (peer : Direction) (s : TheEnd) (msg reply : ℕ) → EndShows i x peer s → SameTypes (interface_in s) msg reply
    → have_same_arguments i msg reply ≡ true
types_are i x peer s msg reply h a =
    let same : arguments_of msg i ≡ arguments_of reply i = subst (λ (j : TheInterface). SameTypes j msg reply) (same_interface i x peer s h) a in
    subst (λ (ts : List TheArgType). same_arguments (arguments_of msg i) ts ≡ true) same (arguments_same (arguments_of msg i))

types_were : (i : Planned) (x : End) (peer : Direction) (s : TheEnd) (msg reply : ℕ) → EndShows i x peer s → have_same_arguments i msg reply ≡ true
    → SameTypes (interface_in s) msg reply
types_were i x peer s msg reply h a =
    subst (λ (j : TheInterface). SameTypes j msg reply) (sym (same_interface i x peer s h))
    (same_arguments_are (arguments_of msg i) (arguments_of reply i) a)

not_true : (b : Bool) → (b ≡ true → ⊥) → b ≡ false
not_true true h = absurd (h refl)
not_true false h = refl

-- ---- the event

rule_by : (i : Planned) (msg reply : ℕ) (x : End) (peer : Direction) (s t : TheEnd) (answer : Result (Unit {0}) EndFault)
    → EndShows i x peer s → SetsRule s msg reply answer t
    → RuleAgrees msg reply (record { interface = i; end = x; peer = peer }) answer t
rule_by i msg reply x peer s t (Ok done) h a = (
  both_are (has_message msg i) (has_message reply i) (message_is i x peer s msg h a.0) (message_is i x peer s reply h a.1),
  types_are i x peer s msg reply h a.2,
  subst (EndShows i (with_rule msg reply x) peer) (sym a.3) (record {
    program = h.program;
    circuit = h.circuit;
    rules = ap (λ (rules : List (Option ℕ)). slice_set rules msg (Some reply)) h.rules;
    outgoing = h.outgoing;
    parts = h.parts;
    failed = h.failed;
  }),
)
rule_by i msg reply x peer s t (Err UnknownMessage) h a = (
  not_true (are_messages i msg reply)
      (λ b. let p = both (has_message msg i) (has_message reply i) b in
      a.0 (message_was i x peer s msg h p.0, message_was i x peer s reply h p.1)),
  stays i x peer s t h a.1,
)
rule_by i msg reply x peer s t (Err Misfit) h a = (
  both_are (has_message msg i) (has_message reply i) (message_is i x peer s msg h a.0) (message_is i x peer s reply h a.1),
  not_true (have_same_arguments i msg reply) (λ b. a.2 (types_were i x peer s msg reply h b)),
  stays i x peer s t h a.3,
)
rule_by i msg reply x peer s t (Err fault) h a = absurd a

pub rule_agrees : RuleShows
rule_agrees msg reply m s t answer h a = rule_by m.interface msg reply m.end m.peer s t answer h a
