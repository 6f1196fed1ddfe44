-- Arguments one after another: their bytes, that these are the payload's, and that code turns their tapes into them.
use Rattle.std.proofs.Common.{◌≡◌, ℕ, ◌+◌, ◌%◌, ◌^◌, ◌≤◌, true, false, Bool, ◌&&◌, leb, if◌then◌else◌, List, [], ◌∷◌, ◌++◌, map, length, replicate, refl, sym, ◌∙◌, ap, subst, arith, append_assoc}
use Rattle.std.specs.List.{list_all, flat_map}
use Rattle.std.proofs.lemmas.List.{length-append, length-replicate, append-nil}
use Rattle.std.proofs.lemmas.Bool.{and_parts, and_from, leb-true, le-leb, false≢true}
use Rattle.fl_interface.specs.Interface.{TheType, TheArgType, fixed, text, sized}
use Rattle.fl_interface.specs.Sizes.{size_of, align_of}
use Rattle.fl_interface.specs.Limits.{is_well_made, is_type_within, is_argument_within}
use Rattle.fl_value_data.specs.Value.{Datum, number, string, elements, fields}
use Rattle.fl_value_data.specs.Fits.{has_type, all_have_type, count_of, is_argument}
use Rattle.fl_value_data.specs.Plan.{is_dynamic}
use Rattle.fl_value_data.specs.Tape.{value_tape, elements_tape, argument_tape, Argument, kind, tape_of_argument}
use Rattle.fl_layout.specs.Leaves.{Leaf, gap, whole, single, elements_onto, bytes_onto, argument_onto, start_onto, arguments_onto}
use Rattle.fl_layout.specs.Places.{size}
use Rattle.fl_wire.specs.Payload.{payload_bytes}
use Rattle.fl_interface.specs.Counts.{words_fit, argument_words_fit}
use Rattle.fl_interface.proofs.Aligned.{align_eight, type_align, IsMultiple}
use Rattle.fl_stub.specs.declared.op.Op.TheVariants.{Align}
use Rattle.fl_stub.specs.declared.op.Column.{Column}
use Rattle.fl_stub.specs.declared.op.Column.TheVariants.{Receive}
use Rattle.fl_stub.specs.Structure.{Block, finished, next, one, counted}
use Rattle.fl_stub.specs.Meaning.{StubMoment, number_bytes, MovesZeros, BlockTurns, moment_last}
use Rattle.fl_compile.specs.declared.arguments.ArgOffset.{ArgOffset}
use Rattle.fl_compile.specs.declared.arguments.ArgOffset.TheVariants.{At, AfterDynamic}
use Rattle.fl_compile.specs.Compiled.{padding, zeros_then, type_then, start_at, start_then, arguments_block}
use Rattle.fl_compile.proofs.Paddings.{padded, padded_multiple, no_padding, padding_same, gap_is_padding, multiple_of_8}
use Rattle.fl_compile.proofs.Payloads.{length_payload, gap_bytes, number_written, number_length, no_gap}
use Rattle.fl_compile.proofs.Encoded.{value_bytes, elements_bytes, value_length, value_lies, elements_lie}
use Rattle.fl_compile.proofs.Turning.{moment, same_turns, zeros_go, counted_goes, value_goes, elements_turn, text_bytes, text_code, text_turns}
use Rattle.fl_compile.proofs.Coming.{Leaves, leaves_at, leaves_on, zeros_come, value_comes, elements_come, text_comes}

-- ---- the bytes

abbrev pub argument_bytes : TheArgType → Datum → List ℕ
argument_bytes (fixed t) d = value_bytes t d
argument_bytes (text most) (string xs) = number_bytes 8 (length xs) ++ text_bytes xs
argument_bytes (sized most t) (elements ds) = number_bytes 8 (count_of ds) ++ elements_bytes t ds
argument_bytes t d = []

-- the alignment at which an argument begins; the first answer says whether it directly follows a dynamic one
abbrev pub begins_at : Bool → TheArgType → ℕ
begins_at after (fixed t) = if after then 8 else align_of t
begins_at after (text most) = 8
begins_at after (sized most t) = 8

-- an argument and the zeros before it, from a place on
abbrev pub placed_bytes : Bool → ℕ → TheArgType → Datum → List ℕ
placed_bytes after at t d = replicate (padding at (begins_at after t)) 0 ++ argument_bytes t d

abbrev pub arguments_bytes : Bool → ℕ → List Argument → List ℕ
arguments_bytes after at [] = []
arguments_bytes after at (a ∷ args) =
    placed_bytes after at a.0 a.1 ++ arguments_bytes (is_dynamic a.0) (at + length (placed_bytes after at a.0 a.1)) args

-- a value of its type, which is within the limits
abbrev pub is_sound : Argument → Bool
is_sound a = is_argument a.0 a.1 && (is_argument_within a.0 && argument_words_fit a.0)

pub made_of : (t : TheType) → is_type_within t ≡ true → is_well_made t ≡ true
made_of t h = (and_parts _ _ h).0

-- ---- the leaves' bytes

-- what stands before a string or a sized array
opened : (after : Bool) (low : List Leaf) → payload_bytes (gap 8 ∷ start_onto after low) ≡ payload_bytes low ++ replicate (padding (size low) 8) 0
opened true low =
    let begun : IsMultiple 8 (size (gap 8 ∷ low)) = let m = padded_multiple 8 (size low) align_eight in omega (arith, m) in
    no_gap 8 (gap 8 ∷ low) (no_padding 8 (size (gap 8 ∷ low)) align_eight begun) ∙ gap_bytes 8 low
opened false low = gap_bytes 8 low

length_lies : (after : Bool) (n : ℕ) (low : List Leaf)
    → payload_bytes (whole 8 n ∷ start_onto after low) ≡ (payload_bytes low ++ replicate (padding (size low) 8) 0) ++ number_bytes 8 n
length_lies after n low = number_written 8 8 n (start_onto after low) ∙ ap (λ (bs : List ℕ). bs ++ number_bytes 8 n) (opened after low)

pub length_multiple : (n : ℕ) (low : List Leaf) → IsMultiple 8 (size (whole 8 n ∷ low))
length_multiple n low = let m = padded_multiple 8 (size low) align_eight in omega (arith, m)

text_lies : (xs : List ℕ) (low : List Leaf) → payload_bytes (bytes_onto xs low) ≡ payload_bytes low ++ text_bytes xs
text_lies [] low = sym (append-nil (payload_bytes low))
text_lies (x ∷ xs) low =
    let none : padding (size low) 1 ≡ 0 = omega arith in
    text_lies xs (single x ∷ low)
    ∙ ap (λ (bs : List ℕ). bs ++ text_bytes xs) (number_written 1 1 x low ∙ ap (λ (bs : List ℕ). bs ++ number_bytes 1 x) (no_gap 1 low none))
    ∙ append_assoc (payload_bytes low) (number_bytes 1 x) (text_bytes xs)

-- a length and what it counts, after zeros
pub counted_joins : {A : Type 0} (low zeros long own whole_bytes start : List A) → start ≡ (low ++ zeros) ++ long → whole_bytes ≡ start ++ own → whole_bytes ≡ low ++ (zeros ++ (long ++ own))
counted_joins {A = A} low zeros long own whole_bytes start e f =
    f ∙ ap (λ (bs : List A). bs ++ own) e ∙ append_assoc (low ++ zeros) long own ∙ append_assoc low zeros (long ++ own)

pub argument_lies : (after : Bool) (t : TheArgType) (d : Datum) (low : List Leaf) → is_sound (t, d) ≡ true
    → payload_bytes (argument_onto t d (start_onto after low)) ≡ payload_bytes low ++ placed_bytes after (size low) t d
argument_lies false (fixed t) d low h =
    let parts = and_parts (has_type t d) _ h in
    let limits = and_parts (is_type_within t) (words_fit t) parts.1 in
    value_lies t d low (made_of t limits.0) limits.1 parts.0
    ∙ ap (λ (bs : List ℕ). bs ++ value_bytes t d) (gap_bytes (align_of t) low)
    ∙ append_assoc (payload_bytes low) (replicate (padding (size low) (align_of t)) 0) (value_bytes t d)
argument_lies true (fixed t) d low h =
    let parts = and_parts (has_type t d) _ h in
    let limits = and_parts (is_type_within t) (words_fit t) parts.1 in
    let begun : IsMultiple 8 (size (gap 8 ∷ low)) = let m = padded_multiple 8 (size low) align_eight in omega (arith, m) in
    let none : padding (size (gap 8 ∷ low)) (align_of t) ≡ 0
    = no_padding (align_of t) (size (gap 8 ∷ low)) (type_align t) (multiple_of_8 (align_of t) (size (gap 8 ∷ low)) (type_align t) begun) in
    value_lies t d (gap 8 ∷ low) (made_of t limits.0) limits.1 parts.0
    ∙ ap (λ (bs : List ℕ). bs ++ value_bytes t d) (no_gap (align_of t) (gap 8 ∷ low) none ∙ gap_bytes 8 low)
    ∙ append_assoc (payload_bytes low) (replicate (padding (size low) 8) 0) (value_bytes t d)
argument_lies after (text most) (string xs) low h =
    let start = whole 8 (length xs) ∷ start_onto after low in
    counted_joins (payload_bytes low) (replicate (padding (size low) 8) 0) (number_bytes 8 (length xs)) (text_bytes xs) (payload_bytes (bytes_onto xs start)) (payload_bytes start)
    (length_lies after (length xs) low) (text_lies xs start)
argument_lies after (sized most t) (elements ds) low h =
    let parts = and_parts (is_argument (sized most t) (elements ds)) _ h in
    let limits = and_parts (is_argument_within (sized most t)) (argument_words_fit (sized most t)) parts.1 in
    let made : is_well_made t ≡ true = made_of t ((and_parts _ _ ((and_parts _ _ (limits.0)).1)).1) in
    let few : words_fit t ≡ true = (and_parts _ _ (limits.1)).1 in
    let typed : all_have_type t ds ≡ true = (and_parts _ _ (parts.0)).1 in
    let start = whole 8 (count_of ds) ∷ start_onto after low in
    let begun : IsMultiple (align_of t) (size start) = multiple_of_8 (align_of t) (size start) (type_align t) (length_multiple (count_of ds) (start_onto after low)) in
    counted_joins (payload_bytes low) (replicate (padding (size low) 8) 0) (number_bytes 8 (count_of ds)) (elements_bytes t ds) (payload_bytes (elements_onto t ds start)) (payload_bytes start)
    (length_lies after (count_of ds) low) (elements_lie t ds start begun made few typed)
argument_lies after (text most) (number z) low h = absurd (false≢true h)
argument_lies after (text most) (elements ds) low h = absurd (false≢true h)
argument_lies after (text most) (fields ds) low h = absurd (false≢true h)
argument_lies after (sized most t) (number z) low h = absurd (false≢true h)
argument_lies after (sized most t) (string xs) low h = absurd (false≢true h)
argument_lies after (sized most t) (fields ds) low h = absurd (false≢true h)

pub arguments_lie : (after : Bool) (args : List Argument) (low : List Leaf) → list_all is_sound args ≡ true
    → payload_bytes (arguments_onto after args low) ≡ payload_bytes low ++ arguments_bytes after (size low) args
arguments_lie after [] low h = sym (append-nil (payload_bytes low))
arguments_lie after (a ∷ args) low h =
    let parts = and_parts (is_sound a) (list_all is_sound args) h in
    let high = argument_onto a.0 a.1 (start_onto after low) in
    let own = placed_bytes after (size low) a.0 a.1 in
    let lies = argument_lies after a.0 a.1 low parts.0 in
    let ends : size high ≡ size low + length own = sym (length_payload high) ∙ ap length lies ∙ length-append (payload_bytes low) own ∙ ap (λ (n : ℕ). n + length own) (length_payload low) in
    arguments_lie (is_dynamic a.0) args high parts.1
    ∙ ap (λ (n : ℕ). payload_bytes high ++ arguments_bytes (is_dynamic a.0) n args) ends
    ∙ ap (λ (bs : List ℕ). bs ++ arguments_bytes (is_dynamic a.0) (size low + length own) args) lies
    ∙ append_assoc (payload_bytes low) own (arguments_bytes (is_dynamic a.0) (size low + length own) args)

-- ---- where arguments stand

-- what the code knows of a place: how far it is from a multiple of 8, or that a dynamic argument ends there
abbrev pub StandsAt : ArgOffset → Bool → ℕ → Type 0
StandsAt (At p) false at = at % 8 ≡ p % 8
StandsAt (At p) true at = ⊥
StandsAt AfterDynamic after at = after ≡ true

abbrev pub standing_after : ArgOffset → TheArgType → ArgOffset
standing_after standing (fixed t) = At (start_at standing (align_of t) + size_of t)
standing_after standing (text most) = AfterDynamic
standing_after standing (sized most t) = AfterDynamic

zeros_long : (n : ℕ) → length (replicate {A = ℕ} n 0) ≡ n
zeros_long n = length-replicate {A = ℕ} n 0

fixed_ends : (after : Bool) (at : ℕ) (t : TheType) (d : Datum) → has_type t d ≡ true
    → at + length (placed_bytes after at (fixed t) d) ≡ (at + padding at (begins_at after (fixed t))) + size_of t
fixed_ends after at t d h =
    let zeros : List ℕ = replicate (padding at (begins_at after (fixed t))) 0 in
    omega (arith, length-append zeros (value_bytes t d), zeros_long (padding at (begins_at after (fixed t))), value_length t d h)

pub stands_after : (standing : ArgOffset) (after : Bool) (at : ℕ) (t : TheArgType) (d : Datum) → StandsAt standing after at → is_argument t d ≡ true
    → StandsAt (standing_after standing t) (is_dynamic t) (at + length (placed_bytes after at t d))
stands_after (At p) false at (fixed t) d s h =
    let same : padding at (align_of t) ≡ padding p (align_of t) = padding_same (align_of t) at p (type_align t) s in
    omega (arith, fixed_ends false at t d h, same, padded (align_of t) p, s)
stands_after (At p) true at (fixed t) d s h = absurd s
stands_after AfterDynamic true at (fixed t) d s h = omega (arith, fixed_ends true at t d h, padded_multiple 8 at align_eight)
stands_after AfterDynamic false at (fixed t) d s h = absurd (false≢true s)
stands_after standing after at (text most) d s h = refl
stands_after standing after at (sized most t) d s h = refl

-- ---- code turns tapes into bytes

align_turns : (rest : Block) (at : ℕ) (t b : List ℕ) (n : StubMoment) → BlockTurns rest (moment (at + padding at 8) t b) n
    → BlockTurns (next (one Align) rest) (moment at t (replicate (padding at 8) 0 ++ b)) n
align_turns rest at t b n h =
    let moves : MovesZeros (padding at 8) (moment at t (replicate (padding at 8) 0 ++ b)) (moment (at + padding at 8) t b) = record { tape = refl; bytes = refl; at = refl } in (
      moment (at + padding at 8) t b,
      subst (λ (k : ℕ). MovesZeros k (moment at t (replicate (padding at 8) 0 ++ b)) (moment (at + padding at 8) t b)) (sym (gap_is_padding at)) moves,
      h,
    )

start_turns : (column : Column) (standing : ArgOffset) (after : Bool) (at : ℕ) (ty : TheType) → StandsAt standing after at → (rest : Block) (t b : List ℕ) (n : StubMoment)
    → BlockTurns rest (moment (at + padding at (begins_at after (fixed ty))) t b) n
    → BlockTurns (start_then column standing (align_of ty) rest) (moment at t (replicate (padding at (begins_at after (fixed ty))) 0 ++ b)) n
start_turns column (At p) false at ty s rest t b n h =
    let same : padding at (align_of ty) ≡ padding p (align_of ty) = padding_same (align_of ty) at p (type_align ty) s in
    let go : (k : ℕ) → k ≡ padding p (align_of ty) → BlockTurns rest (moment (at + k) t b) n → BlockTurns (zeros_then column (padding p (align_of ty)) rest) (moment at t (replicate k 0 ++ b)) n
    = λ k e g. subst (λ (j : ℕ). BlockTurns (zeros_then column j rest) (moment at t (replicate k 0 ++ b)) n) e
    ((zeros_go column k).before rest at t b n (same_turns rest n (ap (λ (j : ℕ). at + j) (sym (zeros_long k))) refl refl g)) in
    go (padding at (align_of ty)) same h
start_turns column (At p) true at ty s rest t b n h = absurd s
start_turns column AfterDynamic true at ty s rest t b n h = align_turns rest at t b n h
start_turns column AfterDynamic false at ty s rest t b n h = absurd (false≢true s)

-- zeros, and then a thing of so many bytes
pub placed_end : (zeros : ℕ) (own : List ℕ) (at : ℕ) → at + length (replicate zeros 0 ++ own) ≡ (at + zeros) + length own
placed_end zeros own at = let e : length (replicate zeros 0 ++ own) ≡ length (replicate {A = ℕ} zeros 0) + length own = length-append (replicate zeros 0) own in omega (arith, e, zeros_long zeros)

argument_turns : (column : Column) (standing : ArgOffset) (after : Bool) (at : ℕ) (t : TheArgType) (d : Datum) → StandsAt standing after at → is_sound (t, d) ≡ true
    → (args : List TheArgType) (tape b : List ℕ) (n : StubMoment)
    → BlockTurns (arguments_block column (standing_after standing t) args) (moment (at + length (placed_bytes after at t d)) tape b) n
    → BlockTurns (arguments_block column standing (t ∷ args)) (moment at (argument_tape t d ++ tape) (placed_bytes after at t d ++ b)) n
argument_turns column standing after at (fixed t) d s h args tape b n g =
    let parts = and_parts (has_type t d) _ h in
    let few : words_fit t ≡ true = (and_parts (is_type_within t) (words_fit t) parts.1).1 in
    let zeros = padding at (begins_at after (fixed t)) in
    let rest = arguments_block column (standing_after standing (fixed t)) args in
    let g' = same_turns rest n (placed_end zeros (value_bytes t d) at) refl refl g in
    let own = (value_goes column t d few parts.0).before rest (at + zeros) tape b n g' in
    let all = start_turns column standing after at t s (type_then column t rest) (value_tape t d ++ tape) (value_bytes t d ++ b) n own in
    same_turns (arguments_block column standing (fixed t ∷ args)) n refl refl (sym (append_assoc (replicate zeros 0) (value_bytes t d) b)) all
argument_turns column standing after at (text most) (string xs) s h args tape b n g =
    let parts = and_parts (is_argument (text most) (string xs)) _ h in
    let typed = and_parts _ _ parts.0 in
    let zeros = padding at 8 in
    let own = number_bytes 8 (length xs) ++ text_bytes xs in
    let rest = arguments_block column AfterDynamic args in
    let g' = same_turns rest n (placed_end zeros own at) refl refl g in
    let few : length xs ≤ most = leb-true (length xs) most (typed.0) in
    let loop = (counted_goes most (length xs) (text_code column finished) xs (text_bytes xs) few (text_turns column xs (typed.1))).before rest (at + zeros) tape b n g' in
    same_turns (arguments_block column standing (text most ∷ args)) n refl refl (sym (append_assoc (replicate zeros 0) own b))
    (align_turns (next (counted most (text_code column finished)) rest) at ((length xs ∷ xs) ++ tape) (own ++ b) n loop)
argument_turns column standing after at (sized most t) (elements ds) s h args tape b n g =
    let parts = and_parts (is_argument (sized most t) (elements ds)) _ h in
    let limits = and_parts (is_argument_within (sized most t)) (argument_words_fit (sized most t)) parts.1 in
    let words : words_fit t ≡ true = (and_parts _ _ (limits.1)).1 in
    let typed = and_parts _ _ parts.0 in
    let zeros = padding at 8 in
    let own = number_bytes 8 (count_of ds) ++ elements_bytes t ds in
    let rest = arguments_block column AfterDynamic args in
    let g' = same_turns rest n (placed_end zeros own at) refl refl g in
    let few : count_of ds ≤ most = leb-true (count_of ds) most (typed.0) in
    let loop = (counted_goes most (count_of ds) (type_then column t finished) (elements_tape t ds) (elements_bytes t ds) few (elements_turn column t ds words (typed.1))).before rest (at + zeros) tape b n g' in
    same_turns (arguments_block column standing (sized most t ∷ args)) n refl refl (sym (append_assoc (replicate zeros 0) own b))
    (align_turns (next (counted most (type_then column t finished)) rest) at ((count_of ds ∷ elements_tape t ds) ++ tape) (own ++ b) n loop)
argument_turns column standing after at (text most) (number z) s h args tape b n g = absurd (false≢true h)
argument_turns column standing after at (text most) (elements ds) s h args tape b n g = absurd (false≢true h)
argument_turns column standing after at (text most) (fields ds) s h args tape b n g = absurd (false≢true h)
argument_turns column standing after at (sized most t) (number z) s h args tape b n g = absurd (false≢true h)
argument_turns column standing after at (sized most t) (string xs) s h args tape b n g = absurd (false≢true h)
argument_turns column standing after at (sized most t) (fields ds) s h args tape b n g = absurd (false≢true h)

pub arguments_turn : (column : Column) (standing : ArgOffset) (after : Bool) (at : ℕ) (args : List Argument) → StandsAt standing after at → list_all is_sound args ≡ true
    → BlockTurns (arguments_block column standing (map kind args)) (moment at (flat_map tape_of_argument args) (arguments_bytes after at args)) (moment_last (at + length (arguments_bytes after at args)))
arguments_turn column standing after at [] s h = let e : at ≡ at + 0 = omega arith in ap (λ (k : ℕ). moment k [] []) e
arguments_turn column standing after at (a ∷ args) s h =
    let parts = and_parts (is_sound a) (list_all is_sound args) h in
    let typed : is_argument a.0 a.1 ≡ true = (and_parts (is_argument a.0 a.1) _ parts.0).0 in
    let own = placed_bytes after at a.0 a.1 in
    let others = arguments_bytes (is_dynamic a.0) (at + length own) args in
    let rest = arguments_turn column (standing_after standing a.0) (is_dynamic a.0) (at + length own) args (stands_after standing after at a.0 a.1 s typed) parts.1 in
    let long : (at + length own) + length others ≡ at + length (own ++ others) = omega (arith, length-append own others) in
    argument_turns column standing after at a.0 a.1 s parts.0 (map kind args) (flat_map tape_of_argument args) others (moment_last (at + length (own ++ others)))
    (subst (λ (k : ℕ). BlockTurns (arguments_block column (standing_after standing a.0) (map kind args)) (moment (at + length own) (flat_map tape_of_argument args) others) (moment_last k)) long rest)

-- ---- what receive code takes are arguments

align_comes : (rest : Block) (m n : StubMoment) → BlockTurns (next (one Align) rest) m n → Leaves rest [] (replicate (padding m.at 8) 0) m n
align_comes rest m n (l, moves, h) =
    let moved : MovesZeros (padding m.at 8) m l = subst (λ (k : ℕ). MovesZeros k m l) (gap_is_padding m.at) moves in
    leaves_at rest [] (replicate (padding m.at 8) 0) m l n moved.tape moved.bytes (moved.at ∙ ap (λ (k : ℕ). m.at + k) (sym (zeros_long (padding m.at 8)))) h

start_comes : (standing : ArgOffset) (after : Bool) (ty : TheType) (rest : Block) (m n : StubMoment) → StandsAt standing after m.at
    → BlockTurns (start_then Receive standing (align_of ty) rest) m n → Leaves rest [] (replicate (padding m.at (begins_at after (fixed ty))) 0) m n
start_comes (At p) false ty rest m n s h =
    let same : padding p (align_of ty) ≡ padding m.at (align_of ty) = sym (padding_same (align_of ty) m.at p (type_align ty) s) in
    subst (λ (k : ℕ). Leaves rest [] (replicate k 0) m n) same (zeros_come Receive (padding p (align_of ty)) rest m n h)
start_comes (At p) true ty rest m n s h = absurd s
start_comes AfterDynamic true ty rest m n s h = align_comes rest m n h
start_comes AfterDynamic false ty rest m n s h = absurd (false≢true s)

pub record ArgumentComes (after : Bool) (t : TheArgType) (rest : Block) (m n : StubMoment) : Type 0 where
  pub d : Datum
  pub typed : is_argument t d ≡ true
  pub leaves : Leaves rest (argument_tape t d) (placed_bytes after m.at t d) m n

-- after zeros, a length and what it counts
counted_leaves : (rest : Block) (count : ℕ) (tape own : List ℕ) (m m1 l e n : StubMoment) (zeros : List ℕ) → m.tape ≡ m1.tape → m.bytes ≡ zeros ++ m1.bytes → m1.at ≡ m.at + length zeros
    → m1.tape ≡ count ∷ l.tape → m1.bytes ≡ number_bytes 8 count ++ l.bytes → l.at ≡ m1.at + 8
    → l.tape ≡ tape ++ e.tape → l.bytes ≡ own ++ e.bytes → e.at ≡ l.at + length own
    → BlockTurns rest e n → Leaves rest (count ∷ tape) (zeros ++ (number_bytes 8 count ++ own)) m n
counted_leaves rest count tape own m m1 l e n zeros t1 b1 a1 t2 b2 a2 t3 b3 a3 h =
    let long = number_bytes 8 count in
    let size : length long ≡ 8 = number_length 0 8 count in
    let bytes : m.bytes ≡ (zeros ++ (long ++ own)) ++ e.bytes
    = b1 ∙ ap (λ (bs : List ℕ). zeros ++ bs) (b2 ∙ ap (λ (bs : List ℕ). long ++ bs) b3 ∙ sym (append_assoc long own e.bytes)) ∙ sym (append_assoc zeros (long ++ own) e.bytes) in
    leaves_at rest (count ∷ tape) (zeros ++ (long ++ own)) m e n (t1 ∙ t2 ∙ ap (λ (xs : List ℕ). count ∷ xs) t3) bytes
    (omega (arith, a1, a2, a3, size, length-append zeros (long ++ own), length-append long own)) h

argument_comes : (standing : ArgOffset) (after : Bool) (t : TheArgType) (args : List TheArgType) (m n : StubMoment) → StandsAt standing after m.at → argument_words_fit t ≡ true
    → BlockTurns (arguments_block Receive standing (t ∷ args)) m n → ArgumentComes after t (arguments_block Receive (standing_after standing t) args) m n
argument_comes standing after (fixed t) args m n s f h =
    let rest = arguments_block Receive (standing_after standing (fixed t)) args in
    let zeros : List ℕ = replicate (padding m.at (begins_at after (fixed t))) 0 in
    let x = start_comes standing after t (type_then Receive t rest) m n s h in
    let y = value_comes t rest (moment (m.at + length zeros) x.t x.b) n f x.turns in
    record { d = y.d; typed = y.typed; leaves = leaves_on (type_then Receive t) rest [] zeros (value_tape t y.d) (value_bytes t y.d) m n x y.leaves }
argument_comes standing after (text most) args m n s f h =
    let rest = arguments_block Receive AfterDynamic args in
    let zeros : List ℕ = replicate (padding m.at 8) 0 in
    let x = align_comes (next (counted most (text_code Receive finished)) rest) m n h in
    let m1 = moment (m.at + length zeros) x.t x.b in
    let (e, (count, l, moved, turns), g) = x.turns in
    let y = text_comes count l e turns in
    let leaves = counted_leaves rest count y.xs (text_bytes y.xs) m m1 l e n zeros x.tape_is x.bytes_are refl moved.tape moved.bytes moved.at y.tape_is y.bytes_are y.at g in
    let few : length y.xs ≤ most = omega (arith, y.many, moved.below) in
    record {
      d = string y.xs;
      typed = and_from _ _ (le-leb (length y.xs) most few) y.typed;
      leaves = subst (λ (k : ℕ). Leaves rest (k ∷ y.xs) (zeros ++ (number_bytes 8 k ++ text_bytes y.xs)) m n) (sym y.many) leaves;
    }
argument_comes standing after (sized most t) args m n s f h =
    let rest = arguments_block Receive AfterDynamic args in
    let zeros : List ℕ = replicate (padding m.at 8) 0 in
    let x = align_comes (next (counted most (type_then Receive t finished)) rest) m n h in
    let m1 = moment (m.at + length zeros) x.t x.b in
    let (e, (count, l, moved, turns), g) = x.turns in
    let words : words_fit t ≡ true = (and_parts (leb most (2 ^ 32)) (words_fit t) f).1 in
    let y = elements_come t count l e words turns in
    let leaves = counted_leaves rest count (elements_tape t y.ds) (elements_bytes t y.ds) m m1 l e n zeros x.tape_is x.bytes_are refl moved.tape moved.bytes moved.at y.tape_is y.bytes_are y.at g in
    let few : count_of y.ds ≤ most = omega (arith, y.many, moved.below) in
    record {
      d = elements y.ds;
      typed = and_from _ _ (le-leb (count_of y.ds) most few) y.typed;
      leaves = subst (λ (k : ℕ). Leaves rest (k ∷ elements_tape t y.ds) (zeros ++ (number_bytes 8 k ++ elements_bytes t y.ds)) m n) (sym y.many) leaves;
    }

-- arguments of these types, and nothing after them
pub record ArgumentsCome (after : Bool) (ts : List TheArgType) (m : StubMoment) : Type 0 where
  pub args : List Argument
  pub kinds : map kind args ≡ ts
  pub typed : list_all (λ (a : Argument). is_argument a.0 a.1) args ≡ true
  pub tape_is : m.tape ≡ flat_map tape_of_argument args
  pub bytes_are : m.bytes ≡ arguments_bytes after m.at args

pub arguments_come : (standing : ArgOffset) (after : Bool) (ts : List TheArgType) (m : StubMoment) (end : ℕ) → StandsAt standing after m.at → list_all argument_words_fit ts ≡ true
    → BlockTurns (arguments_block Receive standing ts) m (moment_last end) → ArgumentsCome after ts m
arguments_come standing after [] m end s f same = record {
  args = [];
  kinds = refl;
  typed = refl;
  tape_is = ap (λ (l : StubMoment). l.tape) same;
  bytes_are = ap (λ (l : StubMoment). l.bytes) same;
}
arguments_come standing after (t ∷ ts) m end s f h =
    let few = and_parts (argument_words_fit t) (list_all argument_words_fit ts) f in
    let x = argument_comes standing after t ts m (moment_last end) s few.0 h in
    let own = placed_bytes after m.at t x.d in
    let y = arguments_come (standing_after standing t) (is_dynamic t) ts (moment (m.at + length own) x.leaves.t x.leaves.b) end (stands_after standing after m.at t x.d s x.typed) few.1 x.leaves.turns in
    record {
      args = (t, x.d) ∷ y.args;
      kinds = ap (λ (us : List TheArgType). t ∷ us) y.kinds;
      typed = and_from _ _ x.typed y.typed;
      tape_is = x.leaves.tape_is ∙ ap (λ (r : List ℕ). argument_tape t x.d ++ r) y.tape_is;
      bytes_are = x.leaves.bytes_are ∙ ap (λ (r : List ℕ). own ++ r) y.bytes_are;
    }
