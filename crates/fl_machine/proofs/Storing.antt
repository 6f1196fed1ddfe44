-- What a run stores: where a refused fragment wrote behind its numbers, and where these moved to another tape.
use Rattle.std.proofs.Common.{◌≡◌, ℕ, ◌<◌, ◌≤◌, Bool, true, false, ◌⊎◌, inl, inr, ⊎_elim, List, [], ◌++◌, take, drop, length, Some, None, refl, sym, ◌∙◌, ap, subst, arith}
use Rattle.std.specs.Prelude.{Option, Ok}
use Rattle.std.proofs.lemmas.Bool.{cases_lt}
use Rattle.std.proofs.lemmas.List.{length-append, length-drop, take-take, take_at}
use Rattle.fl_stub.specs.Given.{bytes_given}
use Rattle.fl_machine.specs.Sending.{frags_holding}
use Rattle.fl_base.specs.declared.fragment.Frag.{Frag}
use Rattle.fl_interface.specs.Interface.{TheInterface}
use Rattle.fl_value_data.specs.declared.value.PlanNo.{PlanNo}
use Rattle.fl_stub.specs.declared.op.Column.TheVariants.{Receive}
use Rattle.fl_compile.specs.declared.program.Program.{Program}
use Rattle.fl_compile.specs.Programs.{TheProgram, program_of}
use Rattle.fl_compile.specs.Compiled.{message_code}
use Rattle.fl_machine.specs.declared.recv.PartialCall.{PartialCall}
use Rattle.fl_machine.specs.Receiving.{Stand, Between, Inside, After, Before}
use Rattle.fl_machine.specs.Taking.{Stands, so_far}
use Rattle.fl_machine.specs.declared.intake.Fed.{Fed}
use Rattle.fl_machine.specs.declared.intake.Fed.TheVariants.{Part, Whole}
use Rattle.fl_machine.specs.Receiving.{TheHeld, TheStored, receiving, fed_of, fed_before, block_at, frags_begun, tape_before, numbers_in, IsStand, CountsNow, IsBefore, IsStored}
use Rattle.fl_machine.specs.Receiving.{Adds, AddsPart, AddsLast, Feeds, stand_after, HoldsTapes, HoldsTwo, HasPlaces}

-- ---- room

holds_more : (plan : PlanNo) (i : TheInterface) (n m : ℕ) → n ≤ m → HoldsTapes plan i n → HoldsTapes plan i m
holds_more plan i n m less holds = λ c fits. omega (arith, less, holds c fits)

pub two_more : (plan : PlanNo) (i : TheInterface) (n m : ℕ) → n ≤ m → HoldsTwo plan i n → HoldsTwo plan i m
two_more plan i n m less (inl holds) = inl (holds_more plan i n m less holds)
two_more plan i n m less (inr room) = inr (omega (arith, less, room))

-- the places of a new run's short tapes
short_two : (plan : PlanNo) (i : TheInterface) (capacity short : ℕ) → (capacity < 112 → capacity ≤ short) → (112 ≤ capacity → 112 ≤ short) → HoldsTapes plan i capacity → HoldsTwo plan i short
short_two plan i capacity short few many holds = ⊎_elim
    (λ (below : capacity < 112). inl (holds_more plan i capacity short (few below) holds))
    (λ (past : 112 ≤ capacity). inr (many past))
    (cases_lt capacity 112)

pub new_stored : (plan : PlanNo) (i : TheInterface) (capacity short : ℕ) (tape spare fresh : List ℕ) → (capacity < 112 → capacity ≤ short) → (112 ≤ capacity → 112 ≤ short) → HoldsTapes plan i capacity
    → length tape ≡ short → length spare ≡ short → length fresh ≡ capacity
    → IsStored plan i (let s : TheStored = record { tape = tape; spare = spare; fresh = fresh; stand = Between; before = None } in s)
new_stored plan i capacity short tape spare fresh few many holds a b c =
    let two = short_two plan i capacity short few many holds in
    record {
      tape = two_more plan i short (length tape) (omega (arith, a)) two;
      spare = two_more plan i short (length spare) (omega (arith, b)) two;
      fresh = inl (holds_more plan i capacity (length fresh) (omega (arith, c)) holds);
      longest = λ n x y z. holds_more plan i capacity n (omega (arith, c, z)) holds;
      stand = tt;
      before = tt;
    }

pub room_for : (p : TheProgram) (count places : ℕ) → count ≤ 56 → HoldsTwo p.plan p.interface places → HasPlaces p count places
room_for p count places few (inl holds) = inl holds
room_for p count places few (inr room) = inr (omega (arith, few, room))

-- ---- numbers put at the beginning of a tape

pub first_put : (numbers tape front : List ℕ) → front ≡ numbers → length numbers ≤ length tape
    → (take (length numbers) (front ++ drop (length numbers) tape) ≡ numbers) × (length (front ++ drop (length numbers) tape) ≡ length tape)
first_put numbers tape front copied few =
    subst
    (λ (xs : List ℕ). (take (length numbers) (xs ++ drop (length numbers) tape) ≡ numbers) × (length (xs ++ drop (length numbers) tape) ≡ length tape))
    (sym copied) (
      take_at numbers (drop (length numbers) tape) (length numbers) refl,
      omega (arith, few, length-append numbers (drop (length numbers) tape), length-drop (length numbers) tape),
    )

-- ---- the same numbers on another tape

-- the first so many numbers of two tapes are the same, and the second is no shorter
pub record Same (n : ℕ) (tape tape2 : List ℕ) : Type 0 where
  pub prefix : take n tape2 ≡ take n tape
  pub long : length tape ≤ length tape2

fewer : (n k : ℕ) (tape tape2 : List ℕ) → Same n tape tape2 → k ≤ n → take k tape2 ≡ take k tape
fewer n k tape tape2 same few = sym (take-take k n tape2 few) ∙ ap (take k) same.prefix ∙ take-take k n tape few

pub fed_same : (plan : PlanNo) (i : TheInterface) (n : ℕ) (tape tape2 : List ℕ) (s : Stand) → Same n tape tape2 → numbers_in s ≤ n → fed_of plan i tape2 s ≡ fed_of plan i tape s
fed_same plan i n tape tape2 Between same few = refl
fed_same plan i n tape tape2 (Inside b) same few =
    ap (λ (t : List ℕ). let r : TheHeld = record { parts = parts_shown t; whole = [] } in r) (fewer n b.intake.count tape tape2 same few)
  where
    parts_shown : List ℕ → List Frag
    parts_shown t = frags_begun b.msg.0 (bytes_given (block_at plan i b.msg.0) (so_far t b.intake)) b.fed
fed_same plan i n tape tape2 (After e) same few =
    ap (λ (t : List ℕ). let r : TheHeld = record { parts = []; whole = whole_shown t } in r) (fewer n e.count tape tape2 same few)
  where
    whole_shown : List ℕ → List Frag
    whole_shown t = frags_holding true e.msg.0 0 (bytes_given (block_at plan i e.msg.0) t)

pub stand_same : (plan : PlanNo) (i : TheInterface) (n : ℕ) (tape tape2 : List ℕ) (s : Stand) → Same n tape tape2 → numbers_in s ≤ n → IsStand plan i tape s → IsStand plan i tape2 s
stand_same plan i n tape tape2 Between same few x = tt
stand_same plan i n tape tape2 (Inside b) same few (some, x) = (
  some,
  record {
    message = x.message;
    known = x.known;
    bytes = x.bytes;
    long = x.long;
    small = x.small;
    within = omega (arith, x.within, same.long);
    stands = subst (λ (t : List ℕ). Stands (message_code Receive plan x.message) t b.intake x.bytes) (sym (fewer n b.intake.count tape tape2 same few)) x.stands;
    begins = x.begins;
  },
)
stand_same plan i n tape tape2 (After e) same few x = record {
  call = x.call;
  message = x.message;
  fits = x.fits;
  within = omega (arith, x.within, same.long);
  tape_is = fewer n e.count tape tape2 same few ∙ x.tape_is;
}

-- a run with other numbers behind those of its stand
abbrev pub with_tape : List ℕ → TheStored → TheStored
with_tape tape s = record { tape = tape; spare = s.spare; fresh = s.fresh; stand = s.stand; before = s.before }

before_same : (plan : PlanNo) (i : TheInterface) (n : ℕ) (tape tape2 spare : List ℕ) (o : Option Before) → Same n tape tape2 → IsBefore plan i tape spare n o → IsBefore plan i tape2 spare n o
before_same plan i n tape tape2 spare None same x = tt
before_same plan i n tape tape2 spare (Some b) same (stands, few) = (by_tape b.began refl few stands, few)
  where
    by_tape : (v : Bool) → b.began ≡ v → CountsNow b.began (numbers_in b.stand) n → IsStand plan i (tape_before tape spare b) b.stand → IsStand plan i (tape_before tape2 spare b) b.stand
    by_tape true e few x = rw e (rw e at x)
    by_tape false e few x =
        let less : numbers_in b.stand ≤ n = subst (λ (v : Bool). CountsNow v (numbers_in b.stand) n) e few in
        rw e (stand_same plan i n tape tape2 b.stand same less (rw e at x))

fed_before_same : (plan : PlanNo) (i : TheInterface) (n : ℕ) (tape tape2 spare : List ℕ) (o : Option Before) → Same n tape tape2 → IsBefore plan i tape spare n o → fed_before plan i tape2 spare o ≡ fed_before plan i tape spare o
fed_before_same plan i n tape tape2 spare None same x = refl
fed_before_same plan i n tape tape2 spare (Some b) same (stands, few) = ap Some (by_tape b.began refl few)
  where
    by_tape : (v : Bool) → b.began ≡ v → CountsNow b.began (numbers_in b.stand) n → fed_of plan i (tape_before tape2 spare b) b.stand ≡ fed_of plan i (tape_before tape spare b) b.stand
    by_tape true e few = rw e refl
    by_tape false e few =
        let less : numbers_in b.stand ≤ n = subst (λ (v : Bool). CountsNow v (numbers_in b.stand) n) e few in
        rw e (fed_same plan i n tape tape2 b.stand same less)

pub stored_same : (plan : PlanNo) (i : TheInterface) (s : TheStored) (b : PartialCall) (tape2 : List ℕ) → s.stand ≡ Inside b → Same b.intake.count s.tape tape2 → IsStored plan i s → IsStored plan i (with_tape tape2 s)
stored_same plan i s b tape2 inside same x =
    let counts : numbers_in s.stand ≡ b.intake.count = ap numbers_in inside in
    let own : Same (numbers_in s.stand) s.tape tape2 = subst (λ (n : ℕ). Same n s.tape tape2) (sym counts) same in
    record {
      tape = two_more plan i (length s.tape) (length tape2) same.long x.tape;
      spare = x.spare;
      fresh = x.fresh;
      longest = λ n past_tape past_spare past_fresh. x.longest n (omega (arith, same.long, past_tape)) past_spare past_fresh;
      stand = stand_same plan i (numbers_in s.stand) s.tape tape2 s.stand own (omega arith) x.stand;
      before = before_same plan i (numbers_in s.stand) s.tape tape2 s.spare s.before own x.before;
    }

pub receiving_same : (program : Program) (s : TheStored) (b : PartialCall) (tape2 : List ℕ) → s.stand ≡ Inside b → Same b.intake.count s.tape tape2
    → IsStored (program_of program).plan (program_of program).interface s → receiving program (with_tape tape2 s) ≡ receiving program s
receiving_same program s b tape2 inside same x =
    let plan = (program_of program).plan in
    let i = (program_of program).interface in
    let counts : numbers_in s.stand ≡ b.intake.count = ap numbers_in inside in
    let own : Same (numbers_in s.stand) s.tape tape2 = subst (λ (n : ℕ). Same n s.tape tape2) (sym counts) same in
    let fed = fed_same plan i (numbers_in s.stand) s.tape tape2 s.stand own (omega arith) in
    let before = fed_before_same plan i (numbers_in s.stand) s.tape tape2 s.spare s.before own x.before in
    λ k. record { program = program; parts = (fed k).parts; whole = (fed k).whole; before = before k }

-- ---- the numbers moved to another tape, where they are more than one fragment's

abbrev pub with_tapes : List ℕ → List ℕ → List ℕ → TheStored → TheStored
with_tapes tape spare fresh s = record { tape = tape; spare = spare; fresh = fresh; stand = s.stand; before = s.before }

-- a tape with the first so many numbers that is as long as each of the three, and two others
pub record Moved (plan : PlanNo) (i : TheInterface) (n : ℕ) (s : TheStored) (tape2 spare2 fresh2 : List ℕ) : Type 0 where
  pub same : Same n s.tape tape2
  pub past_spare : length s.spare ≤ length tape2
  pub past_fresh : length s.fresh ≤ length tape2
  pub spare : HoldsTwo plan i (length spare2)
  pub fresh : HoldsTwo plan i (length fresh2)

-- two tapes are gone over to, one after the other
pub gone_over : (plan : PlanNo) (i : TheInterface) (n count : ℕ) (s : TheStored) (tape spare tape2 fresh : List ℕ) → count ≡ n → IsStored plan i s
    → take count tape ≡ take count s.tape → (length s.tape ≤ length tape) × (length s.spare ≤ length tape) → (length spare ≡ length s.spare) ⊎ (length spare ≡ length s.tape)
    → take count tape2 ≡ take count tape → (length tape ≤ length tape2) × (length s.fresh ≤ length tape2) → (length fresh ≡ length s.fresh) ⊎ (length fresh ≡ length tape)
    → Moved plan i n s tape2 spare fresh
gone_over plan i n count s tape spare tape2 fresh counts x first (long, past) one second (long2, past2) other =
    let moved : Moved plan i count s tape2 spare fresh = record {
      same = record { prefix = second ∙ first; long = omega (arith, long, long2) };
      past_spare = omega (arith, past, long2);
      past_fresh = past2;
      spare = of_two (length spare) (length s.spare) (length s.tape) x.spare x.tape one;
      fresh = of_two (length fresh) (length s.fresh) (length tape) x.fresh (two_more plan i (length s.tape) (length tape) long x.tape) other;
    } in
    subst (λ (m : ℕ). Moved plan i m s tape2 spare fresh) counts moved
  where
    of_two : (m a b : ℕ) → HoldsTwo plan i a → HoldsTwo plan i b → (m ≡ a) ⊎ (m ≡ b) → HoldsTwo plan i m
    of_two m a b h k (inl e) = two_more plan i a m (omega (arith, e)) h
    of_two m a b h k (inr e) = two_more plan i b m (omega (arith, e)) k

pub within_tape : (plan : PlanNo) (i : TheInterface) (s : TheStored) (b : PartialCall) → s.stand ≡ Inside b → IsStored plan i s → b.intake.count ≤ length s.tape
within_tape plan i s b inside x =
    let (some, begun) = subst (λ (t : Stand). IsStand plan i s.tape t) inside x.stand in
    begun.within

before_moved : (plan : PlanNo) (i : TheInterface) (n : ℕ) (tape tape2 spare spare2 : List ℕ) (o : Option Before) → 56 < n → Same n tape tape2 → IsBefore plan i tape spare n o → IsBefore plan i tape2 spare2 n o
before_moved plan i n tape tape2 spare spare2 None many same x = tt
before_moved plan i n tape tape2 spare spare2 (Some b) many same (stands, few) = (by_tape b.began refl few stands, few)
  where
    by_tape : (v : Bool) → b.began ≡ v → CountsNow b.began (numbers_in b.stand) n → IsStand plan i (tape_before tape spare b) b.stand → IsStand plan i (tape_before tape2 spare2 b) b.stand
    by_tape true e few x =
        let less : n ≤ 56 = subst (λ (v : Bool). CountsNow v (numbers_in b.stand) n) e few in
        absurd (omega (arith, less, many))
    by_tape false e few x =
        let less : numbers_in b.stand ≤ n = subst (λ (v : Bool). CountsNow v (numbers_in b.stand) n) e few in
        rw e (stand_same plan i n tape tape2 b.stand same less (rw e at x))

fed_before_moved : (plan : PlanNo) (i : TheInterface) (n : ℕ) (tape tape2 spare spare2 : List ℕ) (o : Option Before) → 56 < n → Same n tape tape2 → IsBefore plan i tape spare n o
    → fed_before plan i tape2 spare2 o ≡ fed_before plan i tape spare o
fed_before_moved plan i n tape tape2 spare spare2 None many same x = refl
fed_before_moved plan i n tape tape2 spare spare2 (Some b) many same (stands, few) = ap Some (by_tape b.began refl few)
  where
    by_tape : (v : Bool) → b.began ≡ v → CountsNow b.began (numbers_in b.stand) n → fed_of plan i (tape_before tape2 spare2 b) b.stand ≡ fed_of plan i (tape_before tape spare b) b.stand
    by_tape true e few =
        let less : n ≤ 56 = subst (λ (v : Bool). CountsNow v (numbers_in b.stand) n) e few in
        absurd (omega (arith, less, many))
    by_tape false e few =
        let less : numbers_in b.stand ≤ n = subst (λ (v : Bool). CountsNow v (numbers_in b.stand) n) e few in
        rw e (fed_same plan i n tape tape2 b.stand same less)

pub moved_stored : (plan : PlanNo) (i : TheInterface) (s : TheStored) (b : PartialCall) (tape2 spare2 fresh2 : List ℕ) → s.stand ≡ Inside b → 56 < b.intake.count
    → Moved plan i b.intake.count s tape2 spare2 fresh2 → IsStored plan i s → IsStored plan i (with_tapes tape2 spare2 fresh2 s)
moved_stored plan i s b tape2 spare2 fresh2 inside many m x =
    let counts : numbers_in s.stand ≡ b.intake.count = ap numbers_in inside in
    let own : Same (numbers_in s.stand) s.tape tape2 = subst (λ (n : ℕ). Same n s.tape tape2) (sym counts) m.same in
    let long : length s.tape ≤ length tape2 = m.same.long in
    record {
      tape = two_more plan i (length s.tape) (length tape2) long x.tape;
      spare = m.spare;
      fresh = m.fresh;
      longest = λ n past_tape past_spare past_fresh. x.longest n (omega (arith, long, past_tape)) (omega (arith, m.past_spare, past_tape)) (omega (arith, m.past_fresh, past_tape));
      stand = stand_same plan i (numbers_in s.stand) s.tape tape2 s.stand own (omega arith) x.stand;
      before = before_moved plan i (numbers_in s.stand) s.tape tape2 s.spare spare2 s.before (omega (arith, counts, many)) own x.before;
    }

pub moved_receiving : (program : Program) (s : TheStored) (b : PartialCall) (tape2 spare2 fresh2 : List ℕ) → s.stand ≡ Inside b → 56 < b.intake.count
    → Moved (program_of program).plan (program_of program).interface b.intake.count s tape2 spare2 fresh2 → IsStored (program_of program).plan (program_of program).interface s
    → receiving program (with_tapes tape2 spare2 fresh2 s) ≡ receiving program s
moved_receiving program s b tape2 spare2 fresh2 inside many m x =
    let plan = (program_of program).plan in
    let i = (program_of program).interface in
    let counts : numbers_in s.stand ≡ b.intake.count = ap numbers_in inside in
    let own : Same (numbers_in s.stand) s.tape tape2 = subst (λ (n : ℕ). Same n s.tape tape2) (sym counts) m.same in
    let fed = fed_same plan i (numbers_in s.stand) s.tape tape2 s.stand own (omega arith) in
    let before = fed_before_moved plan i (numbers_in s.stand) s.tape tape2 s.spare spare2 s.before (omega (arith, counts, many)) own x.before in
    λ k. record { program = program; parts = (fed k).parts; whole = (fed k).whole; before = before k }

-- the longest tape has room for all
pub moved_room : (p : TheProgram) (n : ℕ) (s : TheStored) (tape2 spare2 fresh2 : List ℕ) → Moved p.plan p.interface n s tape2 spare2 fresh2 → IsStored p.plan p.interface s → HasPlaces p n (length tape2)
moved_room p n s tape2 spare2 fresh2 m x = inl (x.longest (length tape2) m.same.long m.past_spare m.past_fresh)

-- ---- a call begun on the fresh tape

abbrev pub begun_on : TheStored → List ℕ → Stand → TheStored
begun_on s tape stand = record { tape = tape; spare = s.tape; fresh = s.spare; stand = stand; before = Some (record { stand = s.stand; began = true }) }

pub begun_stored : (plan : PlanNo) (i : TheInterface) (s : TheStored) (tape : List ℕ) (stand : Stand) → IsStored plan i s → length tape ≡ length s.fresh → numbers_in stand ≤ 56 → IsStand plan i tape stand
    → IsStored plan i (begun_on s tape stand)
begun_stored plan i s tape stand x long few stands = record {
  tape = two_more plan i (length s.fresh) (length tape) (omega (arith, long)) x.fresh;
  spare = x.tape;
  fresh = x.spare;
  longest = λ n past_tape past_spare past_fresh. x.longest n past_spare past_fresh (omega (arith, long, past_tape));
  stand = stands;
  before = (x.stand, few);
}

held_again : (plan : PlanNo) (i : TheInterface) (tape : List ℕ) (s : Stand)
    → fed_of plan i tape s ≡ (let h : TheHeld = record { parts = (fed_of plan i tape s).parts; whole = (fed_of plan i tape s).whole } in h)
held_again plan i tape Between = refl
held_again plan i tape (Inside b) = refl
held_again plan i tape (After e) = refl

pub begun_feeds : (program : Program) (s : TheStored) (tape : List ℕ) (b : PartialCall) (f : Frag) (fed : Fed) → (receiving program s).parts ≡ []
    → Adds (program_of program).plan (program_of program).interface [] f (fed_of (program_of program).plan (program_of program).interface tape (stand_after b fed)) (stand_after b fed)
    → Feeds (receiving program s) f (Ok fed) (receiving program (begun_on s tape (stand_after b fed)))
begun_feeds program s tape b f Part outside adds =
    let plan = (program_of program).plan in
    let i = (program_of program).interface in (
      subst (λ (fs : List Frag). AddsPart plan i fs f (fed_of plan i tape (Inside b))) (sym outside) adds,
      record { program = refl; before = ap Some (held_again plan i s.tape s.stand) },
    )
begun_feeds program s tape b f Whole outside adds =
    let plan = (program_of program).plan in
    let i = (program_of program).interface in (
      subst (λ (fs : List Frag). AddsLast plan i fs f (fed_of plan i tape (stand_after b Whole))) (sym outside) adds,
      record { program = refl; before = ap Some (held_again plan i s.tape s.stand) },
    )

-- what is stored then, told part by part
pub begun_as : (s : TheStored) (tape tape2 spare fresh : List ℕ) (stand stand2 from : Stand) → tape2 ≡ tape → spare ≡ s.tape → fresh ≡ s.spare → stand2 ≡ stand → from ≡ s.stand
    → begun_on s tape stand ≡ (let t : TheStored = record { tape = tape2; spare = spare; fresh = fresh; stand = stand2; before = Some (record { stand = from; began = true }) } in t)
begun_as s tape tape2 spare fresh stand stand2 from e f g h k = λ n. record {
  tape = sym e n;
  spare = sym f n;
  fresh = sym g n;
  stand = sym h n;
  before = Some (record { stand = sym k n; began = true });
}

-- ---- a call that went on

abbrev pub gone_on : TheStored → List ℕ → Stand → TheStored
gone_on s tape stand = record { tape = tape; spare = s.spare; fresh = s.fresh; stand = stand; before = Some (record { stand = s.stand; began = false }) }

pub gone_on_stored : (plan : PlanNo) (i : TheInterface) (s : TheStored) (b : PartialCall) (tape : List ℕ) (stand : Stand) → s.stand ≡ Inside b → Same b.intake.count s.tape tape → IsStored plan i s
    → b.intake.count ≤ numbers_in stand → IsStand plan i tape stand → IsStored plan i (gone_on s tape stand)
gone_on_stored plan i s b tape stand inside same x more stands =
    let counts : numbers_in s.stand ≡ b.intake.count = ap numbers_in inside in
    let own : Same (numbers_in s.stand) s.tape tape = subst (λ (n : ℕ). Same n s.tape tape) (sym counts) same in
    record {
      tape = two_more plan i (length s.tape) (length tape) same.long x.tape;
      spare = x.spare;
      fresh = x.fresh;
      longest = λ n past_tape past_spare past_fresh. x.longest n (omega (arith, same.long, past_tape)) past_spare past_fresh;
      stand = stands;
      before = (stand_same plan i (numbers_in s.stand) s.tape tape s.stand own (omega arith) x.stand, omega (arith, counts, more));
    }

-- what is stored then, told part by part
pub gone_as : (s : TheStored) (tape tape2 : List ℕ) (stand stand2 from : Stand) → tape2 ≡ tape → stand2 ≡ stand → from ≡ s.stand
    → gone_on s tape stand ≡ (let t : TheStored = record { tape = tape2; spare = s.spare; fresh = s.fresh; stand = stand2; before = Some (record { stand = from; began = false }) } in t)
gone_as s tape tape2 stand stand2 from e h k = λ n. record {
  tape = sym e n;
  spare = s.spare;
  fresh = s.fresh;
  stand = sym h n;
  before = Some (record { stand = sym k n; began = false });
}
