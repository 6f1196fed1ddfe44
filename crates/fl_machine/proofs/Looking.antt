-- A call under way whose fragments are kept, and of whose numbers none is: taking one fragment more.
use Rattle.std.proofs.Common.{◌≡◌, ℕ, ◌+◌, ◌^◌, ◌<◌, true, List, [], ◌∷◌, ◌++◌, take, length, Some, None, refl, sym, ◌∙◌, ap, subst, arith, eqb}
use Rattle.std.specs.Prelude.{slice_get}
use Rattle.std.specs.Option.{option_map}
use Rattle.std.proofs.lemmas.List.{append-nil, take_all}
use Rattle.fl_base.specs.declared.fragment.Frag.{Frag}
use Rattle.fl_base.specs.Control.{control_word, message_of, body, bare}
use Rattle.fl_interface.specs.Interface.{TheInterface}
use Rattle.fl_interface.specs.Limits.{is_within_limits}
use Rattle.fl_interface.specs.Counts.{interface_words_fit}
use Rattle.fl_value_data.specs.declared.value.PlanNo.{PlanNo}
use Rattle.fl_wire.specs.Reading.{Means, IsPart}
use Rattle.fl_wire.specs.Headers.{Line}
use Rattle.fl_wire.specs.Wrong.{HasFault, header_fault, follow_fault}
use Rattle.fl_wire.specs.declared.fault.WireFault.{WireFault}
use Rattle.fl_wire.proofs.Unread.{IsUnderWay}
use Rattle.fl_stub.specs.declared.op.Op.{Op}
use Rattle.fl_stub.specs.declared.op.Column.TheVariants.{Receive}
use Rattle.fl_stub.specs.declared.mark.ByteKind.{ByteKind}
use Rattle.fl_stub.specs.Code.{TheCode}
use Rattle.fl_stub.specs.Frames.{block_of}
use Rattle.fl_stub.specs.Given.{bytes_given}
use Rattle.fl_stub.specs.Streams.{BeginsPayload, IsPayload, LeavesPayloads}
use Rattle.fl_compile.specs.Codes.{compiled_code}
use Rattle.fl_compile.specs.Compiled.{message_code}
use Rattle.fl_compile.specs.Laws.{TellsFaults, fault_of}
use Rattle.fl_machine.specs.declared.intake.RecvCursor.{RecvCursor}
use Rattle.fl_machine.specs.declared.recv.PartialCall.{PartialCall}
use Rattle.fl_machine.specs.declared.recv.TapedCall.{TapedCall}
use Rattle.fl_machine.specs.Taking.{Stands, words_bytes}
use Rattle.fl_machine.specs.Receiving.{block_at, frags_begun, parts_of, IsBegun}
use Rattle.fl_machine.specs.Kept.{counting, IsKept, EndsCall}
use Rattle.fl_machine.proofs.Begun.{begun_length}
use Rattle.fl_machine.proofs.Feeding.{Taking, taking, few_fed, goes_on, adds_part, is_whole, has_fault, under_way, header_is}

-- ---- a run stands where it stands, whatever it counts

pub counted : (ops : List Op) (taken : List ℕ) (c : RecvCursor) (bytes : List ℕ) (n : ℕ) → Stands ops taken c bytes → Stands ops taken (record c { count = n }) bytes
counted ops taken c bytes n s =
    let a = s.at in
    record {
      at = record { done = a.done; stance = a.stance; phase = a.phase; reach = a.reach; waiting = a.waiting; bytes_are = a.bytes_are; quiet = a.quiet };
      shows = s.shows;
    }

uncounted : (ops : List Op) (taken : List ℕ) (c : RecvCursor) (bytes : List ℕ) (n : ℕ) → Stands ops taken (record c { count = n }) bytes → Stands ops taken c bytes
uncounted ops taken c bytes n s =
    let a = s.at in
    record {
      at = record { done = a.done; stance = a.stance; phase = a.phase; reach = a.reach; waiting = a.waiting; bytes_are = a.bytes_are; quiet = a.quiet };
      shows = s.shows;
    }

-- the numbers of a call that was begun on a tape may be forgotten
pub forgotten : (plan : PlanNo) (i : TheInterface) (tape : List ℕ) (b : PartialCall) → 0 < b.fed → (x : IsBegun plan i tape b) → IsKept plan i (parts_of plan i tape b) (counting 0 b)
forgotten plan i tape b some x =
    let taken = take b.intake.count tape in
    let all : take (length taken) taken ≡ taken = take_all (length taken) taken (omega arith) in
    record {
      some = some;
      none = refl;
      taken = taken;
      begun = record {
        message = x.message;
        known = x.known;
        bytes = x.bytes;
        long = x.long;
        small = x.small;
        within = omega arith;
        stands = subst (λ (t : List ℕ). Stands (message_code Receive plan x.message) t (record b.intake { count = length taken }) x.bytes) (sym all)
            (counted (message_code Receive plan x.message) taken b.intake x.bytes (length taken) x.stands);
        begins = x.begins;
      };
      parts_are = sym (ap (λ (t : List ℕ). frags_begun b.msg.0 (bytes_given (block_at plan i b.msg.0) (t ++ b.intake.value ∷ [])) b.fed) all);
    }

pub kept_length : (plan : PlanNo) (i : TheInterface) (parts : List Frag) (b : PartialCall) → IsKept plan i parts b → length parts ≡ b.fed
kept_length plan i parts b k = ap length k.parts_are ∙ begun_length b.msg.0 _ b.fed

-- ---- taking a fragment

-- what is known where its words are taken
pub kept_taking : (plan : PlanNo) (i : TheInterface) (parts : List Frag) (b : PartialCall) (f : Frag) (code : TheCode) (ops : List Op) → is_within_limits i ≡ true → interface_words_fit i ≡ true → Line f
    → (k : IsKept plan i parts b) → body f.control ≡ control_word (eqb b.fed 0) b.msg.0 0
    → Some code ≡ option_map (compiled_code Receive plan) (slice_get i.messages b.msg.0) → ops ≡ code.ops → Taking plan i k.taken (counting (length k.taken) b) f ops
kept_taking plan i parts b f code ops within words line k control exact lent =
    taking plan i k.taken (counting (length k.taken) b) f code ops within words line k.begun control exact lent

-- the run stands behind the numbers taken before, and has none on its tape
pub kept_stands : (plan : PlanNo) (i : TheInterface) (parts : List Frag) (b : PartialCall) (f : Frag) (ops : List Op) (tape : List ℕ) (k : IsKept plan i parts b)
    → (x : Taking plan i k.taken (counting (length k.taken) b) f ops) → Stands ops (k.taken ++ take b.intake.count tape) b.intake x.bytes
kept_stands plan i parts b f ops tape k x =
    let n = length k.taken in
    let all : take n k.taken ≡ k.taken = take_all n k.taken (omega arith) in
    let none : k.taken ++ take b.intake.count tape ≡ k.taken = ap (λ (m : ℕ). k.taken ++ take m tape) k.none ∙ append-nil k.taken in
    subst (λ (t : List ℕ). Stands ops t b.intake x.bytes) (sym none)
    (uncounted ops k.taken b.intake x.bytes n (subst (λ (t : List ℕ). Stands ops t (record b.intake { count = n }) x.bytes) all x.stands))

-- the call goes on
pub kept_on : (plan : PlanNo) (i : TheInterface) (parts : List Frag) (b : PartialCall) (f : Frag) (ops : List Op) (tape : List ℕ) (d : RecvCursor) (k : IsKept plan i parts b)
    → (x : Taking plan i k.taken (counting (length k.taken) b) f ops) → Stands ops (k.taken ++ take d.count tape) d (x.bytes ++ words_bytes f.words)
    → BeginsPayload (block_of ops) (x.bytes ++ words_bytes f.words)
    → IsPart plan i (parts ++ f ∷ []) × IsKept plan i (parts ++ bare f ∷ []) (record { msg = b.msg; fed = b.fed + 1; intake = record d { count = 0 } })
kept_on plan i parts b f ops tape d k x stands begins =
    let taken : List ℕ = k.taken ++ take d.count tape in
    let n = length taken in
    let more = x.bytes ++ words_bytes f.words in
    let before : PartialCall = counting (length k.taken) b in
    let after : PartialCall = record { msg = b.msg; fed = b.fed + 1; intake = record d { count = n } } in
    let all : take n taken ≡ taken = take_all n taken (omega arith) in
    let on : Stands ops (take n taken) (record d { count = n }) more = subst (λ (t : List ℕ). Stands ops t (record d { count = n }) more) (sym all) (counted ops taken d more n stands) in
    let adds = adds_part plan i k.taken before f ops taken after x refl refl (omega arith) on begins in
    let begun = goes_on plan i k.taken before f ops taken after x refl refl (omega arith) on begins in (
      subst (λ (fs : List Frag). IsPart plan i (fs ++ f ∷ [])) (sym k.parts_are) adds.part,
      record {
        some = omega arith;
        none = refl;
        taken = taken;
        begun = begun;
        parts_are = ap (λ (fs : List Frag). fs ++ bare f ∷ []) k.parts_are ∙ sym adds.parts_are;
      },
    )

-- the call is whole
pub kept_end : (plan : PlanNo) (i : TheInterface) (parts : List Frag) (b : PartialCall) (f : Frag) (ops : List Op) (tape : List ℕ) (count : ℕ) (k : IsKept plan i parts b)
    → (x : Taking plan i k.taken (counting (length k.taken) b) f ops) → IsPayload (block_of ops) (x.bytes ++ words_bytes f.words) (k.taken ++ take count tape)
    → EndsCall plan i parts f
kept_end plan i parts b f ops tape count k x is =
    let taken : List ℕ = k.taken ++ take count tape in
    let e : TapedCall = record { msg = b.msg; count = length taken } in
    let all : take (length taken) taken ≡ taken = take_all (length taken) taken (omega arith) in
    let more = x.bytes ++ words_bytes f.words in
    let y = is_whole plan i k.taken (counting (length k.taken) b) f ops taken e x refl (subst (λ (t : List ℕ). IsPayload (block_of ops) more t) (sym all) is) in
    record {
      call = y.call;
      fits = y.fits;
      means = subst (λ (fs : List Frag). Means plan i (fs ++ f ∷ []) y.call 0) (sym k.parts_are) y.means;
      frags_are = ap (λ (fs : List Frag). fs ++ bare f ∷ []) k.parts_are ∙ x.grown.parts_are ∙ sym x.grown.bare_are ∙ y.means;
    }

-- the fragment has a wrong byte
pub kept_fault : (plan : PlanNo) (i : TheInterface) (parts : List Frag) (b : PartialCall) (f : Frag) (ops : List Op) (mark : ByteKind) (fault : WireFault) → TellsFaults → (k : IsKept plan i parts b)
    → (x : Taking plan i k.taken (counting (length k.taken) b) f ops) → header_fault i parts f ≡ None → message_of f.control ≡ b.msg.0 → fault ≡ fault_of mark
    → LeavesPayloads (block_of ops) (x.bytes ++ words_bytes f.words) mark → HasFault plan i parts f fault
kept_fault plan i parts b f ops mark fault tells k x header own is l =
    subst (λ (fs : List Frag). HasFault plan i fs f fault) (sym k.parts_are)
    (has_fault plan i k.taken (counting (length k.taken) b) f ops mark fault tells x (subst (λ (fs : List Frag). header_fault i fs f ≡ None) k.parts_are header) own is l)

-- a call has few fragments
pub kept_few : (plan : PlanNo) (i : TheInterface) (parts : List Frag) (b : PartialCall) (f : Frag) (ops : List Op) (k : IsKept plan i parts b)
    → Taking plan i k.taken (counting (length k.taken) b) f ops → b.fed + 1 < 2 ^ 64
kept_few plan i parts b f ops k x = few_fed plan i k.taken (counting (length k.taken) b) f ops x

-- ---- control words

pub kept_under_way : (plan : PlanNo) (i : TheInterface) (parts : List Frag) (b : PartialCall) → is_within_limits i ≡ true → interface_words_fit i ≡ true → IsKept plan i parts b → IsUnderWay plan i parts
kept_under_way plan i parts b within words k =
    subst (λ (fs : List Frag). IsUnderWay plan i fs) (sym k.parts_are) (under_way plan i k.taken (counting (length k.taken) b) within words k.some k.begun)

pub kept_header : (plan : PlanNo) (i : TheInterface) (parts : List Frag) (b : PartialCall) (f : Frag) → is_within_limits i ≡ true → interface_words_fit i ≡ true → IsKept plan i parts b
    → header_fault i parts f ≡ follow_fault b.msg.0 f
kept_header plan i parts b f within words k =
    ap (λ (fs : List Frag). header_fault i fs f) k.parts_are ∙ header_is plan i k.taken (counting (length k.taken) b) f within words k.some k.begun
