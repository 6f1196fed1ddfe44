-- What taking a fragment's bytes says of the calls of its message.
use Rattle.std.proofs.Common.{◌≡◌, ℕ, zero, suc, ◌+◌, ◌*◌, ◌^◌, ◌<◌, ◌≤◌, true, ⊎_elim, inl, inr, List, [], ◌∷◌, ◌++◌, map, take, length, get_or, slice_index, Some, None, Result, Ok, Err, refl, sym, ◌∙◌, ap, subst, arith, eqb}
use Rattle.std.specs.Prelude.{slice_get, Option, IfErr, IfOk}
use Rattle.std.specs.Option.{option_map}
use Rattle.std.specs.List.{range_with_len}
use Rattle.std.proofs.lemmas.Bool.{cases_lt, and_parts, leb-true, false≢true}
use Rattle.std.proofs.lemmas.Option.{slice_get_within, slice_get-get_or}
use Rattle.fl_base.specs.declared.fragment.Frag.{Frag}
use Rattle.fl_base.specs.Control.{control_word, message_of, body, bare}
use Rattle.fl_interface.specs.Interface.{TheMessage, TheInterface}
use Rattle.fl_interface.specs.Limits.{is_within_limits}
use Rattle.fl_value_data.specs.declared.value.PlanNo.{PlanNo}
use Rattle.fl_value_data.specs.Value.{Datum, TheCall}
use Rattle.fl_value_data.specs.Taken.{HasTape}
use Rattle.std.proofs.lemmas.List.{append-nil}
use Rattle.fl_value_data.specs.Fits.{fits_of, fit_message}
use Rattle.fl_value_data.specs.Tape.{tape_of}
use Rattle.fl_layout.specs.Leaves.{leaves}
use Rattle.fl_layout.specs.Places.{size, count_for, count}
use Rattle.fl_layout.proofs.BothPlans.{length_small}
use Rattle.fl_wire.specs.Payload.{payload_of, frags_of}
use Rattle.fl_wire.specs.Reading.{Means, IsPart, IsWrong}
use Rattle.fl_wire.specs.Headers.{Line}
use Rattle.fl_wire.specs.Wrong.{WrongByte, HasFault, header_fault, start_fault, follow_fault}
use Rattle.fl_interface.specs.Counts.{interface_words_fit}
use Rattle.fl_wire.specs.declared.fault.WireFault.{WireFault}
use Rattle.fl_wire.proofs.Bytes.{length_payload}
use Rattle.fl_wire.proofs.Readings.{count_positive, byte_of_payload}
use Rattle.fl_wire.proofs.Decoding.{prefix_frags, short_count, whole_count}
use Rattle.fl_wire.proofs.Frames.{start_known}
use Rattle.fl_wire.proofs.Unread.{IsUnderWay, fault_is_wrong, reads_right, one_fits}
use Rattle.fl_stub.specs.declared.op.Op.{Op}
use Rattle.fl_stub.specs.declared.op.Column.TheVariants.{Receive}
use Rattle.fl_stub.specs.declared.mark.ByteKind.{ByteKind}
use Rattle.fl_stub.specs.Code.{TheCode}
use Rattle.fl_stub.specs.Structure.{Block, IsCode}
use Rattle.fl_stub.specs.Frames.{block_of}
use Rattle.fl_stub.specs.Meaning.{Turns}
use Rattle.fl_stub.specs.Given.{bytes_given}
use Rattle.fl_stub.specs.Marks.{marks_of, mark_at}
use Rattle.fl_stub.specs.Streams.{BeginsPayload, IsPayload, LeavesPayloads}
use Rattle.fl_stub.proofs.Structures.{structure_is}
use Rattle.fl_stub.proofs.Giving.{turns_into_given}
use Rattle.fl_compile.specs.Codes.{compiled_code}
use Rattle.fl_compile.specs.Compiled.{message_block, message_code}
use Rattle.fl_compile.specs.Laws.{HasMessage, Carries, TellsFaults, fault_of}
use Rattle.fl_compile.proofs.Lawful.{takes_calls, compiles_to_code}
use Rattle.fl_machine.specs.declared.intake.Fed.{Fed}
use Rattle.fl_machine.specs.declared.intake.Fed.TheVariants.{Part, Whole}
use Rattle.fl_machine.specs.declared.recv.PartialCall.{PartialCall}
use Rattle.fl_machine.specs.declared.recv.TapedCall.{TapedCall}
use Rattle.fl_machine.specs.Sending.{frag_of, frags_holding}
use Rattle.fl_machine.specs.Taking.{Stands, words_bytes, so_far, HasRoom}
use Rattle.fl_machine.specs.Receiving.{block_for, block_at, frags_begun, parts_of, whole_of, TheHeld, TheReceiving, plan_in, interface_in, Feeds, AddsPart, AddsLast, IsRefused, HoldsTapes, HasPlaces, IsBegun, IsEnded, IsTapeOf}
use Rattle.fl_compile.specs.Programs.{TheProgram}
use Rattle.fl_machine.proofs.Begun.{same_begun, begun_length, bare_begun, Grown, grows, byte_of_frags}

-- ---- calls and what code takes

abbrev receive : PlanNo → TheMessage → Block
receive plan m = message_block Receive plan m

call_of_turns : (plan : PlanNo) (i : TheInterface) (msg : ℕ) (m : TheMessage) (tape full : List ℕ) → HasMessage i msg m → Turns (receive plan m) tape full
    → (c : TheCall) × Carries plan i msg tape full c
call_of_turns plan i msg m tape full has turns = (takes_calls plan i msg m tape full has).0 turns

turns_of_call : (plan : PlanNo) (i : TheInterface) (msg : ℕ) (m : TheMessage) (c : TheCall) → HasMessage i msg m → c.msg ≡ msg → fits_of i c ≡ true
    → Turns (receive plan m) (tape_of plan i c) (payload_of plan i c)
turns_of_call plan i msg m c has own fits =
    (takes_calls plan i msg m (tape_of plan i c) (payload_of plan i c) has).1 (c, record { message = own; fits = fits; tape_is = refl; bytes_are = refl })

payload_size : (plan : PlanNo) (i : TheInterface) (c : TheCall) (full : List ℕ) → full ≡ payload_of plan i c → length full ≡ size (leaves plan i c)
payload_size plan i c full e = ap length e ∙ length_payload (leaves plan i c)

-- fragments begun with a call's payload are its own
call_begun : (plan : PlanNo) (i : TheInterface) (c : TheCall) (msg : ℕ) (full : List ℕ) (n : ℕ) → c.msg ≡ msg → full ≡ payload_of plan i c
    → frags_begun msg full n ≡ frags_begun c.msg (payload_of plan i c) n
call_begun plan i c msg full n own bytes = ap (λ (k : ℕ). frags_begun k full n) (sym own) ∙ ap (λ (bs : List ℕ). frags_begun c.msg bs n) bytes

-- the fragments so far are part of a call
pub part_of : (plan : PlanNo) (i : TheInterface) (msg : ℕ) (m : TheMessage) (all : List Frag) (bytes : List ℕ) (n : ℕ) → HasMessage i msg m
    → map bare all ≡ frags_begun msg bytes n → length all ≡ n → length bytes ≡ 56 * n → BeginsPayload (receive plan m) bytes → IsPart plan i all
part_of plan i msg m all bytes n has bare_are many long begins =
    let (c, carries) = call_of_turns plan i msg m begins.tape begins.full has begins.goes.turns in
    let longer : length bytes < length begins.full = begins.longer begins.tape begins.full begins.goes in
    let sizes = payload_size plan i c begins.full carries.bytes_are in
    let short : n < count plan i c = short_count (size (leaves plan i c)) (count plan i c) n refl (omega (arith, long, longer, sizes)) in
    record {
      call = c;
      fits = carries.fits;
      short = omega (arith, many, short);
      prefix = bare_are ∙ same_begun (length bytes) msg bytes begins.full n begins.goes.follows (omega (arith, long))
          ∙ call_begun plan i c msg begins.full n carries.message carries.bytes_are
          ∙ sym (prefix_frags plan i c n (omega (arith, short)))
          ∙ ap (λ (k : ℕ). take k (frags_of plan i c)) (sym many);
    }

-- the fragments so far are a call's
pub record Ends (plan : PlanNo) (i : TheInterface) (msg : ℕ) (all : List Frag) (tape : List ℕ) : Type 0 where
  pub call : TheCall
  pub message : call.msg ≡ msg
  pub fits : fits_of i call ≡ true
  pub tape_is : tape ≡ tape_of plan i call
  pub means : Means plan i all call 0

pub ends : (plan : PlanNo) (i : TheInterface) (msg : ℕ) (m : TheMessage) (parts : List Frag) (f : Frag) (bytes more tape : List ℕ) (k : ℕ) → HasMessage i msg m
    → Grown msg parts f bytes more k → length bytes ≡ 56 * k → (0 < k → BeginsPayload (receive plan m) bytes) → IsPayload (receive plan m) more tape
    → Ends plan i msg (parts ++ f ∷ []) tape
ends plan i msg m parts f bytes more tape k has grown long begins is =
    let (c, carries) = call_of_turns plan i msg m tape is.full has is.goes.turns in
    let sizes = payload_size plan i c is.full carries.bytes_are in
    let few : count plan i c ≤ k + 1 = whole_count (size (leaves plan i c)) (count plan i c) (k + 1) refl (omega arith) (omega (arith, is.short, sizes, grown.long)) in
    let many : k < count plan i c = ⊎_elim
    (λ (some : 0 < k).
    let longer : length bytes < length is.full
    = (begins some).longer tape is.full (record {
      turns = is.goes.turns;
      follows = record {
        each = λ p small.
            grown.prefix.each p (omega (arith, small, long)) ∙ is.goes.follows.each p (omega (arith, small, long, grown.long));
      };
    }) in
    short_count (size (leaves plan i c)) (count plan i c) k refl (omega (arith, long, longer, sizes)))
    (λ (none : k ≤ 0). omega (arith, none, count_positive plan i c))
    (cases_lt 0 k) in
    let counts : k + 1 ≡ count plan i c = omega (arith, few, many) in
    record {
      call = c;
      message = carries.message;
      fits = carries.fits;
      tape_is = carries.tape_is;
      means = grown.bare_are ∙ same_begun (length more) msg more is.full (k + 1) is.goes.follows (omega (arith, grown.long))
          ∙ call_begun plan i c msg is.full (k + 1) carries.message carries.bytes_are
          ∙ ap (λ (n : ℕ). frags_begun c.msg (payload_of plan i c) n) counts;
    }

-- the first wrong byte
pub wrong_byte : (plan : PlanNo) (i : TheInterface) (msg : ℕ) (m : TheMessage) (parts : List Frag) (f : Frag) (bytes more : List ℕ) (k : ℕ) (mark : ByteKind) → TellsFaults → HasMessage i msg m
    → Grown msg parts f bytes more k → LeavesPayloads (receive plan m) more mark → WrongByte plan i msg (parts ++ f ∷ []) (fault_of mark)
wrong_byte plan i msg m parts f bytes more k mark tells has grown l =
    let (c, carries) = call_of_turns plan i msg m l.tape l.full has l.goes.turns in
    let all = parts ++ f ∷ [] in
    let inside : l.p < 56 * (k + 1) = omega (arith, l.inside, grown.long) in
    record {
      p = l.p;
      inside = omega (arith, inside, grown.many);
      call = c;
      of = carries.message;
      fits = carries.fits;
      before = record {
        at = λ q small. byte_of_frags msg all more (k + 1) q grown.bare_are grown.small (omega (arith, small, inside))
            ∙ l.goes.follows.each q small ∙ ap (λ (bs : List ℕ). slice_index bs q) carries.bytes_are ∙ byte_of_payload (leaves plan i c) q;
      };
      none = λ d own fits agrees. l.none (tape_of plan i d) (payload_of plan i d) (record {
        turns = turns_of_call plan i msg m d has own fits;
        follows = record {
          each = λ q small. sym (byte_of_frags msg all more (k + 1) q grown.bare_are grown.small (omega (arith, small, inside)))
              ∙ agrees.at q small ∙ sym (byte_of_payload (leaves plan i d) q);
        };
      });
      is = ap fault_of (l.is ∙ ap (λ (t : List ℕ). mark_at (marks_of (receive plan m) t) l.p) carries.tape_is)
          ∙ sym (tells plan i m c (subst (λ (n : ℕ). HasMessage i n m) (sym carries.message) has) carries.fits l.p);
    }

-- ---- what is stored

pub one_block : (plan : PlanNo) (i : TheInterface) (msg : ℕ) (m : TheMessage) (ops : List Op) → HasMessage i msg m → ops ≡ message_code Receive plan m → block_of ops ≡ receive plan m
one_block plan i msg m ops has e = ap block_of e ∙ structure_is Receive (message_code Receive plan m) (receive plan m) (compiles_to_code Receive plan i msg m has)

pub has_message : (i : TheInterface) (msg : ℕ) (m : TheMessage) → is_within_limits i ≡ true → interface_words_fit i ≡ true → slice_get i.messages msg ≡ Some m → HasMessage i msg m
has_message i msg m within words known = record { within = within; words = words; message = known }

-- message numbers are small
pub few_messages : (i : TheInterface) (msg : ℕ) (m : TheMessage) → is_within_limits i ≡ true → slice_get i.messages msg ≡ Some m → msg < 2 ^ 16
few_messages i msg m within known = omega (arith, slice_get_within i.messages msg m known, leb-true (length i.messages) 256 (and_parts _ _ within).0)

pub room_for : (i : TheInterface) → is_within_limits i ≡ true → length i.messages ≤ 2 ^ 16
room_for i within = omega (arith, leb-true (length i.messages) 256 (and_parts _ _ within).0)

-- the fragments shown are those of the bytes fed
pub shown : (plan : PlanNo) (i : TheInterface) (tape : List ℕ) (b : PartialCall) (x : IsBegun plan i tape b) → HasMessage i b.msg.0 x.message
    → parts_of plan i tape b ≡ frags_begun b.msg.0 x.bytes b.fed
shown plan i tape b x has =
    let numbers = so_far (take b.intake.count tape) b.intake in
    let blocks : block_at plan i b.msg.0 ≡ block_of (message_code Receive plan x.message)
    = ap (block_for plan) x.known ∙ sym (one_block plan i b.msg.0 x.message (message_code Receive plan x.message) has refl) in
    ap (λ (k : Block). frags_begun b.msg.0 (bytes_given k numbers) b.fed) blocks
    ∙ sym (same_begun (length x.bytes) b.msg.0 x.bytes (bytes_given (block_of (message_code Receive plan x.message)) numbers) b.fed x.stands.shows (omega (arith, x.long)))

-- and those of a whole call are the call's
pub whole_shown : (plan : PlanNo) (i : TheInterface) (tape : List ℕ) (e : TapedCall) (m : TheMessage) (x : IsEnded plan i tape e) → HasMessage i e.msg.0 m
    → whole_of plan i tape e ≡ frags_of plan i x.call
whole_shown plan i tape e m x has =
    let c = x.call in
    let bytes : bytes_given (block_at plan i e.msg.0) (take e.count tape) ≡ payload_of plan i c
    = ap (λ (b : Block). bytes_given b (take e.count tape)) (ap (block_for plan) has.message) ∙ ap (bytes_given (receive plan m)) x.tape_is
    ∙ turns_into_given (receive plan m) (tape_of plan i c) (payload_of plan i c) (turns_of_call plan i e.msg.0 m c has x.message x.fits) in
    ap (λ (k : ℕ). frags_holding true k 0 (bytes_given (block_at plan i e.msg.0) (take e.count tape))) (sym x.message)
    ∙ ap (λ (bs : List ℕ). frags_holding true c.msg 0 bs) bytes
    ∙ ap (λ (n : ℕ). map (frag_of true c.msg 0 (payload_of plan i c)) (range_with_len 0 (count_for n))) (length_payload (leaves plan i c))

-- ---- taking a fragment

-- what is known where a fragment's words are taken
pub record Taking (plan : PlanNo) (i : TheInterface) (tape : List ℕ) (b : PartialCall) (f : Frag) (ops : List Op) : Type 0 where
  pub message : TheMessage
  pub has : HasMessage i b.msg.0 message
  pub ops_are : ops ≡ message_code Receive plan message
  pub bytes : List ℕ
  pub long : length bytes ≡ 56 * b.fed
  pub stands : Stands ops (take b.intake.count tape) b.intake bytes
  pub begins : 0 < b.fed → BeginsPayload (message_block Receive plan message) bytes
  pub parts_are : parts_of plan i tape b ≡ frags_begun b.msg.0 bytes b.fed
  pub grown : Grown b.msg.0 (parts_of plan i tape b) f bytes (bytes ++ words_bytes f.words) b.fed

code_is : (code : TheCode) (plan : PlanNo) (m : TheMessage) (o : Option TheMessage) → o ≡ Some m → Some code ≡ option_map (compiled_code Receive plan) o → code.ops ≡ message_code Receive plan m
code_is code plan m o known h =
    let both : Some code ≡ Some (compiled_code Receive plan m) = h ∙ ap (option_map (compiled_code Receive plan)) known in
    let same : code ≡ compiled_code Receive plan m = cc in
    ap (λ (c : TheCode). c.ops) same

pub taking : (plan : PlanNo) (i : TheInterface) (tape : List ℕ) (b : PartialCall) (f : Frag) (code : TheCode) (ops : List Op) → is_within_limits i ≡ true → interface_words_fit i ≡ true → Line f
    → (x : IsBegun plan i tape b) → body f.control ≡ control_word (eqb b.fed 0) b.msg.0 0
    → Some code ≡ option_map (compiled_code Receive plan) (slice_get i.messages b.msg.0) → ops ≡ code.ops → Taking plan i tape b f ops
taking plan i tape b f code ops within words line x control exact lent =
    let fits = few_messages i b.msg.0 x.message within x.known in
    let has = has_message i b.msg.0 x.message within words x.known in
    let parts = shown plan i tape b x has in
    let ops_are : ops ≡ message_code Receive plan x.message = lent ∙ code_is code plan x.message (slice_get i.messages b.msg.0) x.known exact in
    record {
      message = x.message;
      has = has;
      ops_are = ops_are;
      bytes = x.bytes;
      long = x.long;
      stands = subst (λ (o : List Op). Stands o (take b.intake.count tape) b.intake x.bytes) (sym ops_are) x.stands;
      begins = x.begins;
      parts_are = parts;
      grown = subst (λ (fs : List Frag). Grown b.msg.0 fs f x.bytes (x.bytes ++ words_bytes f.words) b.fed) (sym parts) (grows b.msg.0 f x.bytes b.fed fits line x.long x.small control);
    }

pub has_room : (plan : PlanNo) (i : TheInterface) (tape : List ℕ) (b : PartialCall) (f : Frag) (ops : List Op) (capacity : ℕ) → Taking plan i tape b f ops → HoldsTapes plan i capacity
    → (t full : List ℕ) → Turns (block_of ops) t full → length t ≤ capacity
has_room plan i tape b f ops capacity x room t full turns =
    let blocks = one_block plan i b.msg.0 x.message ops x.has x.ops_are in
    let (c, carries) = call_of_turns plan i b.msg.0 x.message t full x.has (subst (λ (k : Block). Turns k t full) blocks turns) in
    omega (arith, room c carries.fits, ap length carries.tape_is)

pub has_places : (p : TheProgram) (tape : List ℕ) (b : PartialCall) (f : Frag) (ops : List Op) (places : ℕ) → Taking p.plan p.interface tape b f ops → HasPlaces p b.intake.count places
    → HasRoom ops b.intake.count 56 places
has_places p tape b f ops places x (inl fits) = inl (has_room p.plan p.interface tape b f ops places x fits)
has_places p tape b f ops places x (inr room) = inr room

-- a call has few fragments
pub few_fed : (plan : PlanNo) (i : TheInterface) (tape : List ℕ) (b : PartialCall) (f : Frag) (ops : List Op) → Taking plan i tape b f ops → b.fed + 1 < 2 ^ 64
few_fed plan i tape b f ops x = ⊎_elim
    (λ (some : 0 < b.fed).
    let begins = x.begins some in
    let (c, carries) = call_of_turns plan i b.msg.0 x.message begins.tape begins.full x.has begins.goes.turns in
    let longer : length x.bytes < length begins.full = begins.longer begins.tape begins.full begins.goes in
    let small : size (leaves plan i c) ≤ 32768 = length_small plan i b.msg.0 x.message c x.has.within x.has.message (record { fits = carries.fits; names = carries.message }) in
    omega (arith, longer, small, x.long, payload_size plan i c begins.full carries.bytes_are))
    (λ (none : b.fed ≤ 0). omega (arith, none))
    (cases_lt 0 b.fed)

-- the call goes on
pub goes_on : (plan : PlanNo) (i : TheInterface) (tape : List ℕ) (b : PartialCall) (f : Frag) (ops : List Op) (tape2 : List ℕ) (b2 : PartialCall) (x : Taking plan i tape b f ops) → b2.msg.0 ≡ b.msg.0 → b2.fed ≡ b.fed + 1
    → b2.intake.count ≤ length tape2 → Stands ops (take b2.intake.count tape2) b2.intake (x.bytes ++ words_bytes f.words) → BeginsPayload (block_of ops) (x.bytes ++ words_bytes f.words)
    → IsBegun plan i tape2 b2
goes_on plan i tape b f ops tape2 b2 x own fed within stands begins =
    let blocks = one_block plan i b.msg.0 x.message ops x.has x.ops_are in
    let more = x.bytes ++ words_bytes f.words in
    record {
      message = x.message;
      known = ap (slice_get i.messages) own ∙ x.has.message;
      bytes = more;
      long = x.grown.long ∙ ap (λ (n : ℕ). 56 * n) (sym fed);
      small = x.grown.small;
      within = within;
      stands = subst (λ (o : List Op). Stands o (take b2.intake.count tape2) b2.intake more) x.ops_are stands;
      begins = λ some. subst (λ (k : Block). BeginsPayload k more) blocks begins;
    }

pub adds_part : (plan : PlanNo) (i : TheInterface) (tape : List ℕ) (b : PartialCall) (f : Frag) (ops : List Op) (tape2 : List ℕ) (b2 : PartialCall) (x : Taking plan i tape b f ops) → b2.msg.0 ≡ b.msg.0 → b2.fed ≡ b.fed + 1
    → b2.intake.count ≤ length tape2 → Stands ops (take b2.intake.count tape2) b2.intake (x.bytes ++ words_bytes f.words) → BeginsPayload (block_of ops) (x.bytes ++ words_bytes f.words)
    → AddsPart plan i (parts_of plan i tape b) f (let t : TheHeld = record { parts = parts_of plan i tape2 b2; whole = [] } in t)
unfolding goes_on
adds_part plan i tape b f ops tape2 b2 x own fed within stands begins =
    let blocks = one_block plan i b.msg.0 x.message ops x.has x.ops_are in
    let more = x.bytes ++ words_bytes f.words in
    let y = goes_on plan i tape b f ops tape2 b2 x own fed within stands begins in
    let has2 : HasMessage i b2.msg.0 x.message = subst (λ (n : ℕ). HasMessage i n x.message) (sym own) x.has in
    record {
      part = part_of plan i b.msg.0 x.message (parts_of plan i tape b ++ f ∷ []) more (b.fed + 1) x.has x.grown.bare_are x.grown.many x.grown.long
          (subst (λ (k : Block). BeginsPayload k more) blocks begins);
      parts_are = shown plan i tape2 b2 y has2 ∙ ap (λ (n : ℕ). frags_begun n more b2.fed) own ∙ ap (frags_begun b.msg.0 more) fed ∙ sym x.grown.parts_are;
      whole_is = refl;
    }

-- the call is whole
pub is_whole : (plan : PlanNo) (i : TheInterface) (tape : List ℕ) (b : PartialCall) (f : Frag) (ops : List Op) (tape2 : List ℕ) (e : TapedCall) (x : Taking plan i tape b f ops) → e.msg.0 ≡ b.msg.0
    → IsPayload (block_of ops) (x.bytes ++ words_bytes f.words) (take e.count tape2) → Ends plan i e.msg.0 (parts_of plan i tape b ++ f ∷ []) (take e.count tape2)
is_whole plan i tape b f ops tape2 e x own is =
    let blocks = one_block plan i b.msg.0 x.message ops x.has x.ops_are in
    let more = x.bytes ++ words_bytes f.words in
    subst (λ (n : ℕ). Ends plan i n (parts_of plan i tape b ++ f ∷ []) (take e.count tape2)) (sym own)
    (ends plan i b.msg.0 x.message (parts_of plan i tape b) f x.bytes more (take e.count tape2) b.fed x.has x.grown x.long x.begins
    (subst (λ (k : Block). IsPayload k more (take e.count tape2)) blocks is))

pub ended : (plan : PlanNo) (i : TheInterface) (all : List Frag) (tape2 : List ℕ) (e : TapedCall) → e.count ≤ length tape2 → Ends plan i e.msg.0 all (take e.count tape2) → IsEnded plan i tape2 e
ended plan i all tape2 e within x = record { call = x.call; message = x.message; fits = x.fits; within = within; tape_is = x.tape_is }

pub adds_last : (plan : PlanNo) (i : TheInterface) (tape : List ℕ) (b : PartialCall) (f : Frag) (ops : List Op) (tape2 : List ℕ) (e : TapedCall) (x : Taking plan i tape b f ops) → e.msg.0 ≡ b.msg.0 → e.count ≤ length tape2
    → IsPayload (block_of ops) (x.bytes ++ words_bytes f.words) (take e.count tape2)
    → AddsLast plan i (parts_of plan i tape b) f (let t : TheHeld = record { parts = []; whole = whole_of plan i tape2 e } in t)
unfolding ended is_whole
adds_last plan i tape b f ops tape2 e x own within is =
    let y = is_whole plan i tape b f ops tape2 e x own is in
    let has2 : HasMessage i e.msg.0 x.message = subst (λ (n : ℕ). HasMessage i n x.message) (sym own) x.has in
    record {
      call = y.call;
      fits = y.fits;
      means = y.means;
      parts_are = refl;
      whole_is = whole_shown plan i tape2 e x.message (ended plan i (parts_of plan i tape b ++ f ∷ []) tape2 e within y) has2 ∙ sym y.means ∙ x.grown.bare_are ∙ sym x.grown.parts_are;
    }

-- the fragment has a wrong byte
pub has_fault : (plan : PlanNo) (i : TheInterface) (tape : List ℕ) (b : PartialCall) (f : Frag) (ops : List Op) (mark : ByteKind) (fault : WireFault) → TellsFaults → (x : Taking plan i tape b f ops)
    → header_fault i (parts_of plan i tape b) f ≡ None → message_of f.control ≡ b.msg.0 → fault ≡ fault_of mark
    → LeavesPayloads (block_of ops) (x.bytes ++ words_bytes f.words) mark → HasFault plan i (parts_of plan i tape b) f fault
has_fault plan i tape b f ops mark fault tells x header own is l =
    let blocks = one_block plan i b.msg.0 x.message ops x.has x.ops_are in
    let more = x.bytes ++ words_bytes f.words in
    let all = parts_of plan i tape b ++ f ∷ [] in
    let wrong = wrong_byte plan i b.msg.0 x.message (parts_of plan i tape b) f x.bytes more b.fed mark tells x.has x.grown (subst (λ (k : Block). LeavesPayloads k more mark) blocks l) in
    inr (header, subst (λ (n : ℕ). WrongByte plan i n all fault) (sym own) (subst (λ (w : WireFault). WrongByte plan i b.msg.0 all w) (sym is) wrong))

-- ---- control words

-- a call that is to begin
pub none_begun : (plan : PlanNo) (i : TheInterface) (tape : List ℕ) (b : PartialCall) (f : Frag) → is_within_limits i ≡ true → interface_words_fit i ≡ true → start_fault i f ≡ None → b.msg.0 ≡ message_of f.control → b.fed ≡ 0
    → b.intake.count ≡ 0 → ((ops : List Op) → IsCode Receive ops (block_of ops) → Stands ops [] b.intake []) → IsBegun plan i tape b
none_begun plan i tape b f within words none own fed nothing_taken stands =
    let nothing : TheMessage = record { name = []; args = [] } in
    let m = get_or i.messages b.msg.0 nothing in
    let known : slice_get i.messages b.msg.0 ≡ Some m = slice_get-get_or i.messages b.msg.0 nothing (omega (arith, own, start_known i f none)) in
    let has = has_message i b.msg.0 m within words known in
    let ops = message_code Receive plan m in
    let code = compiles_to_code Receive plan i b.msg.0 m has in
    let s : Stands ops [] b.intake [] = stands ops (subst (λ (k : Block). IsCode Receive ops k) (sym (one_block plan i b.msg.0 m ops has refl)) code) in
    record {
      message = m;
      known = known;
      bytes = [];
      long = omega (arith, fed);
      small = λ p. omega arith;
      within = omega (arith, nothing_taken);
      stands = subst (λ (t : List ℕ). Stands ops t b.intake []) (ap (λ (n : ℕ). take n tape) (sym nothing_taken)) s;
      begins = λ some. absurd (omega (arith, some, fed));
    }

pub refused : (plan : PlanNo) (i : TheInterface) (parts : List Frag) (f : Frag) (fault : WireFault) → is_within_limits i ≡ true → interface_words_fit i ≡ true → IsUnderWay plan i parts → HasFault plan i parts f fault
    → IsRefused plan i parts f fault
refused plan i parts f fault within words part first = record { first = first; wrong = fault_is_wrong plan i parts f fault words (room_for i within) part first }

-- the parts of a call under way are part of a call, and the next one's control word follows theirs
pub under_way : (plan : PlanNo) (i : TheInterface) (tape : List ℕ) (b : PartialCall) → is_within_limits i ≡ true → interface_words_fit i ≡ true → 0 < b.fed → (x : IsBegun plan i tape b)
    → IsUnderWay plan i (parts_of plan i tape b)
under_way plan i tape b within words some x =
    let has = has_message i b.msg.0 x.message within words x.known in
    let parts = shown plan i tape b x has in
    let small = few_messages i b.msg.0 x.message within x.known in
    inr (subst (λ (fs : List Frag). IsPart plan i fs) (sym parts)
    (part_of plan i b.msg.0 x.message (frags_begun b.msg.0 x.bytes b.fed) x.bytes b.fed has (bare_begun b.msg.0 x.bytes b.fed small) (begun_length b.msg.0 x.bytes b.fed) x.long (x.begins some)))

first_names : (i : TheInterface) (msg : ℕ) (bytes : List ℕ) (n : ℕ) (f : Frag) → 0 < n → msg < 2 ^ 16 → header_fault i (frags_begun msg bytes n) f ≡ follow_fault msg f
first_names i msg bytes zero f some small = absurd (omega (arith, some))
first_names i msg bytes (suc n) f some small =
    let is : message_of (control_word true msg 0) ≡ msg = omega (arith, small) in
    ap (λ (k : ℕ). follow_fault k f) is

pub header_is : (plan : PlanNo) (i : TheInterface) (tape : List ℕ) (b : PartialCall) (f : Frag) → is_within_limits i ≡ true → interface_words_fit i ≡ true → 0 < b.fed → (x : IsBegun plan i tape b)
    → header_fault i (parts_of plan i tape b) f ≡ follow_fault b.msg.0 f
header_is plan i tape b f within words some x =
    let has = has_message i b.msg.0 x.message within words x.known in
    ap (λ (fs : List Frag). header_fault i fs f) (shown plan i tape b x has) ∙ first_names i b.msg.0 x.bytes b.fed f some (few_messages i b.msg.0 x.message within x.known)

-- ---- answers

pub err_weaker : {A E : Type 0} (r : Result A E) (P Q : E → Type 0) → ((e : E) → P e → Q e) → IfErr r P → IfErr r Q
err_weaker (Ok x) P Q f h = h
err_weaker (Err e) P Q f h = f e h

-- ---- answers to fragments

-- part of a call isn't wrong, nor is a whole call
pub part_right : (plan : PlanNo) (i : TheInterface) (all : List Frag) → IsPart plan i all → IsWrong plan i all → ⊥
part_right plan i all x =
    reads_right plan i all [] all (record { whole = []; joined = refl; fit = λ k c small. absurd (omega (arith, small)); mean = refl; part = inr x })

pub whole_right : (plan : PlanNo) (i : TheInterface) (all : List Frag) (c : TheCall) → fits_of i c ≡ true → Means plan i all c 0 → IsWrong plan i all → ⊥
whole_right plan i all c fits means =
    reads_right plan i all (c ∷ []) []
    (record { whole = all; joined = sym (append-nil all); fit = one_fits i c fits; mean = means ∙ sym (append-nil (frags_of plan i c)); part = inl refl })

pub right_of : (s : TheReceiving) (f : Frag) (r : Result Fed WireFault) (t : TheReceiving) → Feeds s f r t → IfOk r (λ fed. IsWrong (plan_in s) (interface_in s) (s.parts ++ f ∷ []) → ⊥)
right_of s f (Ok Part) t (a, r) = part_right (plan_in s) (interface_in s) (s.parts ++ f ∷ []) a.part
right_of s f (Ok Whole) t (a, r) = whole_right (plan_in s) (interface_in s) (s.parts ++ f ∷ []) a.call a.fits a.means
right_of s f (Err fault) t x = tt

-- ---- the call from its tape

fits_message : (o : Option TheMessage) (ds : List Datum) → fit_message o ds ≡ true → (m : TheMessage) × (o ≡ Some m)
fits_message None ds h = absurd (false≢true h)
fits_message (Some m) ds h = (m, refl)

pub means_whole : (plan : PlanNo) (i : TheInterface) (tape : List ℕ) (e : TapedCall) (c : TheCall) → is_within_limits i ≡ true → interface_words_fit i ≡ true → IsEnded plan i tape e
    → HasTape plan i e.msg.0 (take e.count tape) c → Means plan i (whole_of plan i tape e) c 0
means_whole plan i tape e c within words x h =
    let (m, named) = fits_message (slice_get i.messages c.msg) c.args h.fits in
    let known : slice_get i.messages e.msg.0 ≡ Some m = ap (slice_get i.messages) (sym h.message) ∙ named in
    let y : IsEnded plan i tape e = record { call = c; message = h.message; fits = h.fits; within = x.within; tape_is = h.whole } in
    ap (map bare) (whole_shown plan i tape e m y (has_message i e.msg.0 m within words known)) ∙ bare_begun c.msg (payload_of plan i c) (count plan i c) (few_messages i c.msg m within named)

-- and the tape itself
pub tape_whole : (plan : PlanNo) (i : TheInterface) (tape : List ℕ) (e : TapedCall) (numbers : List ℕ) → is_within_limits i ≡ true → interface_words_fit i ≡ true → IsEnded plan i tape e
    → numbers ≡ take e.count tape → IsTapeOf plan i (whole_of plan i tape e) numbers
tape_whole plan i tape e numbers within words x is = record {
  call = x.call;
  fits = x.fits;
  means = means_whole plan i tape e x.call within words x (record { message = x.message; fits = x.fits; whole = x.tape_is });
  tape_is = is ∙ x.tape_is;
}
