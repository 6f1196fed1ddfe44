-- The packed tape that a call's send code takes is the call's own.
use Rattle.std.proofs.Common.{◌≡◌, ℕ, suc, ◌+◌, ◌%◌, ◌<◌, true, false, Bool, eqb, cond, List, [], ◌∷◌, ◌++◌, length, map, refl, sym, ◌∙◌, ap, arith, append_assoc}
use Rattle.std.specs.List.{list_all, flat_map}
use Rattle.std.proofs.lemmas.List.{append-nil}
use Rattle.std.proofs.lemmas.Bool.{and_parts, ltb-true, eqb-true, false≢true}
use Rattle.fl_interface.specs.Interface.{TheType, scalar, enumeration, structure, array, TheTypes, no_more, field, TheArgType, fixed, text, sized}
use Rattle.fl_interface.specs.Sizes.{round_up, size_of, align_of, greatest_align}
use Rattle.fl_value_data.specs.Value.{Datum, number, string, elements, fields, Data, nothing_more, also}
use Rattle.fl_value_data.specs.Fits.{has_type, have_types, all_have_type, is_argument, count_of, is_text_byte}
use Rattle.fl_value_data.specs.Tape.{Argument, kind, value_tape, fields_tape, elements_tape, argument_tape, tape_of_argument}
use Rattle.fl_stub.specs.declared.op.Column.TheVariants.{Send}
use Rattle.fl_stub.specs.Structure.{Block, finished, next, one}
use Rattle.fl_stub.specs.Meaning.{number_bytes}
use Rattle.fl_compile.specs.declared.arguments.ArgOffset.{ArgOffset}
use Rattle.fl_compile.specs.declared.arguments.ArgOffset.TheVariants.{At, AfterDynamic}
use Rattle.fl_compile.specs.Compiled.{padding, text_op, pad_op, zeros_then, type_then, fields_then, start_at, start_then, arguments_block}
use Rattle.fl_value_tape.specs.Packed.{value_packed, fields_packed, elements_packed, argument_packed, packed_argument}
use Rattle.fl_stub_steps.specs.Spreading.{Packing, then_packed, turns_packed, block_packed}

-- bytes before a packing's
abbrev pub put_before : List ℕ → Packing → Packing
put_before bytes p = record { bytes = bytes ++ p.bytes; tape = p.tape }

abbrev pub packing : List ℕ → List ℕ → Packing
packing bytes tape = record { bytes = bytes; tape = tape }

twice : (a b : List ℕ) (p : Packing) → put_before a (put_before b p) ≡ put_before (a ++ b) p
twice a b p = ap (λ (z : List ℕ). packing z p.tape) (sym (append_assoc a b p.bytes))

-- zeros take nothing
zeros_by : (count : ℕ) (rest : Block) (tape : List ℕ) (none : Bool) → block_packed (cond none rest (next (one (pad_op Send count)) rest)) tape ≡ block_packed rest tape
zeros_by count rest tape true = refl
zeros_by count rest tape false = refl

zeros_pack : (count : ℕ) (rest : Block) (tape : List ℕ) → block_packed (zeros_then Send count rest) tape ≡ block_packed rest tape
zeros_pack count rest tape = zeros_by count rest tape (eqb count 0)

start_packs : (standing : ArgOffset) (align : ℕ) (rest : Block) (tape : List ℕ) → block_packed (start_then Send standing align rest) tape ≡ block_packed rest tape
start_packs (At at) align rest tape = zeros_pack (padding at align) rest tape
start_packs AfterDynamic align rest tape = refl

-- a turn of a loop, and those behind it
turn_packs : (body : Block) (k : ℕ) (t1 b1 t2 b2 more : List ℕ) → block_packed body (t1 ++ (t2 ++ more)) ≡ packing (b1 ++ []) (t2 ++ more)
    → turns_packed (block_packed body) k (t2 ++ more) ≡ packing b2 more → turns_packed (block_packed body) (suc k) ((t1 ++ t2) ++ more) ≡ packing (b1 ++ b2) more
turn_packs body k t1 b1 t2 b2 more first others =
    let turns = turns_packed (block_packed body) k in
    ap (λ (z : List ℕ). then_packed (block_packed body z) turns) (append_assoc t1 t2 more)
    ∙ ap (λ (p : Packing). then_packed p turns) first
    ∙ ap (λ (p : Packing). put_before (b1 ++ []) p) others
    ∙ ap (λ (z : List ℕ). packing (z ++ b2) more) (append-nil b1)

mutual
  value_packs : (t : TheType) (d : Datum) (rest : Block) (more : List ℕ) → has_type t d ≡ true
      → block_packed (type_then Send t rest) (value_tape t d ++ more) ≡ put_before (value_packed t d) (block_packed rest more)
  value_packs (scalar s) (number z) rest more h = refl
  value_packs (enumeration n) (number z) rest more h = refl
  value_packs (structure ts) (fields ds) rest more h = fields_pack (greatest_align ts) 0 ts ds rest more h
  value_packs (array n t) (elements ds) rest more h =
      let has = and_parts (eqb (count_of ds) n) (all_have_type t ds) h in
      let count : count_of ds ≡ n = eqb-true (count_of ds) n (has.0) in
      ap (λ (p : Packing). then_packed p (block_packed rest))
      (ap (λ (k : ℕ). turns_packed (block_packed (type_then Send t finished)) k (elements_tape t ds ++ more)) (sym count) ∙ elements_pack t ds more (has.1))
  value_packs (scalar s) (string b) rest more h = absurd (false≢true h)
  value_packs (scalar s) (elements ds) rest more h = absurd (false≢true h)
  value_packs (scalar s) (fields ds) rest more h = absurd (false≢true h)
  value_packs (enumeration n) (string b) rest more h = absurd (false≢true h)
  value_packs (enumeration n) (elements ds) rest more h = absurd (false≢true h)
  value_packs (enumeration n) (fields ds) rest more h = absurd (false≢true h)
  value_packs (structure ts) (number z) rest more h = absurd (false≢true h)
  value_packs (structure ts) (string b) rest more h = absurd (false≢true h)
  value_packs (structure ts) (elements ds) rest more h = absurd (false≢true h)
  value_packs (array n t) (number z) rest more h = absurd (false≢true h)
  value_packs (array n t) (string b) rest more h = absurd (false≢true h)
  value_packs (array n t) (fields ds) rest more h = absurd (false≢true h)

  fields_pack : (align at : ℕ) (ts : TheTypes) (ds : Data) (rest : Block) (more : List ℕ) → have_types ts ds ≡ true
      → block_packed (fields_then Send align at ts rest) (fields_tape ts ds ++ more) ≡ put_before (fields_packed ts ds) (block_packed rest more)
  fields_pack align at no_more nothing_more rest more h = zeros_pack (padding at align) rest more
  fields_pack align at (field t ts) (also d ds) rest more h =
      let has = and_parts (has_type t d) (have_types ts ds) h in
      let others = fields_then Send align (round_up at (align_of t) + size_of t) ts rest in
      let tape = (value_tape t d ++ fields_tape ts ds) ++ more in
      zeros_pack (padding at (align_of t)) (type_then Send t others) tape
      ∙ ap (λ (z : List ℕ). block_packed (type_then Send t others) z) (append_assoc (value_tape t d) (fields_tape ts ds) more)
      ∙ value_packs t d others (fields_tape ts ds ++ more) (has.0)
      ∙ ap (λ (p : Packing). put_before (value_packed t d) p) (fields_pack align (round_up at (align_of t) + size_of t) ts ds rest more (has.1))
      ∙ twice (value_packed t d) (fields_packed ts ds) (block_packed rest more)
  fields_pack align at no_more (also d ds) rest more h = absurd (false≢true h)
  fields_pack align at (field t ts) nothing_more rest more h = absurd (false≢true h)

  elements_pack : (t : TheType) (ds : Data) (more : List ℕ) → all_have_type t ds ≡ true
      → turns_packed (block_packed (type_then Send t finished)) (count_of ds) (elements_tape t ds ++ more) ≡ packing (elements_packed t ds) more
  elements_pack t nothing_more more h = refl
  elements_pack t (also d ds) more h =
      let has = and_parts (has_type t d) (all_have_type t ds) h in
      let body = type_then Send t finished in
      let e : 1 + count_of ds ≡ suc (count_of ds) = omega arith in
      ap (λ (k : ℕ). turns_packed (block_packed body) k ((value_tape t d ++ elements_tape t ds) ++ more)) e
      ∙ turn_packs body (count_of ds) (value_tape t d) (value_packed t d) (elements_tape t ds) (elements_packed t ds) more
      (value_packs t d finished (elements_tape t ds ++ more) (has.0)) (elements_pack t ds more (has.1))

-- ---- strings

byte_low : (x : ℕ) → is_text_byte x ≡ true → number_bytes 1 x ≡ x ∷ []
byte_low x h =
    let small : x < 256 = ltb-true x 256 ((and_parts _ _ h).1) in
    let e : x % 256 ≡ x = omega (arith, small) in
    ap (λ (z : ℕ). z ∷ []) e

text_packs : (xs more : List ℕ) → list_all is_text_byte xs ≡ true → turns_packed (block_packed (next (one (text_op Send)) finished)) (length xs) (xs ++ more) ≡ packing xs more
text_packs [] more h = refl
text_packs (x ∷ xs) more h =
    let has = and_parts (is_text_byte x) (list_all is_text_byte xs) h in
    let body = next (one (text_op Send)) finished in
    turn_packs body (length xs) (x ∷ []) (x ∷ []) xs xs more (ap (λ (z : List ℕ). packing (z ++ []) (xs ++ more)) (byte_low x (has.0))) (text_packs xs more (has.1))

-- ---- arguments

argument_packs : (standing : ArgOffset) (t : TheArgType) (d : Datum) (ts : List TheArgType) (tape bytes : List ℕ) → is_argument t d ≡ true
    → ((after : ArgOffset) → block_packed (arguments_block Send after ts) tape ≡ packing bytes [])
    → block_packed (arguments_block Send standing (t ∷ ts)) (argument_tape t d ++ tape) ≡ packing (argument_packed t d ++ bytes) []
argument_packs standing (fixed t) d ts tape bytes h others =
    let after = At (start_at standing (align_of t) + size_of t) in
    let rest = arguments_block Send after ts in
    start_packs standing (align_of t) (type_then Send t rest) (value_tape t d ++ tape)
    ∙ value_packs t d rest tape h
    ∙ ap (λ (p : Packing). put_before (value_packed t d) p) (others after)
argument_packs standing (text most) (string bs) ts tape bytes h others =
    let has = and_parts _ _ h in
    let rest = block_packed (arguments_block Send AfterDynamic ts) in
    ap (λ (p : Packing). then_packed (put_before (number_bytes 8 (length bs)) p) rest) (text_packs bs tape (has.1))
    ∙ ap (λ (p : Packing). put_before (number_bytes 8 (length bs) ++ bs) p) (others AfterDynamic)
argument_packs standing (sized most t) (elements ds) ts tape bytes h others =
    let has = and_parts _ _ h in
    let rest = block_packed (arguments_block Send AfterDynamic ts) in
    ap (λ (p : Packing). then_packed (put_before (number_bytes 8 (count_of ds)) p) rest) (elements_pack t ds tape (has.1))
    ∙ ap (λ (p : Packing). put_before (number_bytes 8 (count_of ds) ++ elements_packed t ds) p) (others AfterDynamic)
argument_packs standing (text most) (number z) ts tape bytes h others = absurd (false≢true h)
argument_packs standing (text most) (elements ds) ts tape bytes h others = absurd (false≢true h)
argument_packs standing (text most) (fields ds) ts tape bytes h others = absurd (false≢true h)
argument_packs standing (sized most t) (number z) ts tape bytes h others = absurd (false≢true h)
argument_packs standing (sized most t) (string bs) ts tape bytes h others = absurd (false≢true h)
argument_packs standing (sized most t) (fields ds) ts tape bytes h others = absurd (false≢true h)

abbrev pub is_fit : Argument → Bool
is_fit a = is_argument a.0 a.1

pub arguments_pack : (standing : ArgOffset) (args : List Argument) → list_all is_fit args ≡ true
    → block_packed (arguments_block Send standing (map kind args)) (flat_map tape_of_argument args) ≡ packing (flat_map packed_argument args) []
arguments_pack standing [] h = refl
arguments_pack standing (a ∷ args) h =
    let has = and_parts (is_fit a) (list_all is_fit args) h in
    argument_packs standing a.0 a.1 (map kind args) (flat_map tape_of_argument args) (flat_map packed_argument args) (has.0) (λ after. arguments_pack after args (has.1))
