-- A fragment whose bytes are all of one text, which goes on, passed over at once.
use Rattle.std.proofs.Common.{◌≡◌, Bool, true, false, ℕ, zero, suc, ◌+◌, ◌-◌, ◌%◌, ◌<◌, ◌≤◌, List, [], ◌∷◌, ◌++◌, take, length, get_or, cond, eqb, map, refl, sym, ◌∙◌, ap, subst, arith}
use Rattle.std.proofs.Math.Dec.{ltb}
use Rattle.std.proofs.lemmas.Bool.{ltb-true, ltb-false}
use Rattle.std.proofs.lemmas.List.{append-nil, take_all}
use Rattle.std.specs.Simd.Lanes.{zip2, sel_l, mask_l}
use Rattle.fl_base.specs.declared.fragment.Frag.{Frag}
use Rattle.fl_base.specs.Control.{bare}
use Rattle.fl_interface.specs.Interface.{TheInterface}
use Rattle.fl_value_data.specs.declared.value.PlanNo.{PlanNo}
use Rattle.fl_wire.specs.Reading.{IsPart}
use Rattle.fl_stub.specs.declared.op.Op.{Op}
use Rattle.fl_stub.specs.declared.op.Op.TheVariants.{ReadText}
use Rattle.fl_stub.specs.declared.mark.ByteKind.TheVariants.{Number}
use Rattle.fl_stub.specs.Meaning.{number_bytes}
use Rattle.fl_machine.specs.declared.intake.ByteField.{ByteField}
use Rattle.fl_machine.specs.declared.intake.RecvCursor.{RecvCursor}
use Rattle.fl_machine.specs.declared.recv.PartialCall.{PartialCall}
use Rattle.fl_machine.specs.Taking.{words_bytes, Stands, IsFed, HasField, IsRunOf, AreWithin, AreSet, IsTextRun, PassesText, inner_loop, after_bytes, after_fragment}
use Rattle.fl_machine.specs.Kept.{counting, IsKept}
use Rattle.fl_machine.proofs.Begun.{length_words, words_small}
use Rattle.fl_machine.proofs.Feeding.{Taking}
use Rattle.fl_machine.proofs.Intakes.{fed_first, stands_after, begins_after, run_field, stance_depth}
use Rattle.fl_machine.proofs.Looking.{counted, kept_stands, kept_on}
use Rattle.fl_machine.proofs.Spans.{spanned, span_turns, span_far}

-- ---- bytes that aren't 0

-- the lesser of two
first_of : (x y : ℕ) (b : Bool) → ltb x y ≡ b → 0 < cond b x y → 0 < x
first_of x y true is some = some
first_of x y false is some = let most = ltb-false x y is in omega (arith, most, some)

second_of : (x y : ℕ) (b : Bool) → ltb x y ≡ b → 0 < cond b x y → 0 < y
second_of x y true is some = let less = ltb-true x y is in omega (arith, less, some)
second_of x y false is some = some

-- of each two
pub first_set : (xs ys : List ℕ) → length xs ≡ length ys → AreSet (sel_l (zip2 ltb xs ys) xs ys) → AreSet xs
first_set [] ys long set = tt
first_set (x ∷ xs) [] long set = absurd (omega (arith, long))
first_set (x ∷ xs) (y ∷ ys) long set = (first_of x y (ltb x y) refl set.0, first_set xs ys (omega (arith, long)) set.1)

pub second_set : (xs ys : List ℕ) → length xs ≡ length ys → AreSet (sel_l (zip2 ltb xs ys) xs ys) → AreSet ys
second_set [] [] long set = tt
second_set [] (y ∷ ys) long set = absurd (omega (arith, long))
second_set (x ∷ xs) [] long set = tt
second_set (x ∷ xs) (y ∷ ys) long set = (second_of x y (ltb x y) refl set.0, second_set xs ys (omega (arith, long)) set.1)

-- where no bit says that one is 0
pub none_zero : (xs : List ℕ) → mask_l (map (λ x. eqb x 0) xs) ≡ 0 → AreSet xs
none_zero [] none = tt
none_zero (zero ∷ xs) none = absurd (omega (arith, none))
none_zero (suc x ∷ xs) none = (omega arith, none_zero xs (omega (arith, none)))

joined_set : (xs ys : List ℕ) → AreSet xs → AreSet ys → AreSet (xs ++ ys)
joined_set [] ys first second = second
joined_set (x ∷ xs) ys first second = (first.0, joined_set xs ys first.1 second)

-- of so many words
pub words_set : (words : List ℕ) → ((k : ℕ) → k < length words → AreSet (number_bytes 8 (get_or words k 0))) → AreSet (words_bytes words)
words_set [] each = tt
words_set (w ∷ words) each = joined_set (number_bytes 8 w) (words_bytes words) (each 0 (omega arith)) (words_set words (λ k less. each (suc k) (omega (arith, less))))

-- what holds of each of seven
pub seven : (P : ℕ → Type 0) → P 0 → P 1 → P 2 → P 3 → P 4 → P 5 → P 6 → (n : ℕ) → n ≡ 7 → (k : ℕ) → k < n → P k
seven P a b c d e f g n is zero less = a
seven P a b c d e f g n is (suc zero) less = b
seven P a b c d e f g n is (suc (suc zero)) less = c
seven P a b c d e f g n is (suc (suc (suc zero))) less = d
seven P a b c d e f g n is (suc (suc (suc (suc zero)))) less = e
seven P a b c d e f g n is (suc (suc (suc (suc (suc zero))))) less = f
seven P a b c d e f g n is (suc (suc (suc (suc (suc (suc zero)))))) less = g
seven P a b c d e f g n is (suc (suc (suc (suc (suc (suc (suc k))))))) less = absurd (omega (arith, is, less))

set_within : (bytes : List ℕ) → ((p : ℕ) → get_or bytes p 0 < 256) → AreSet bytes → AreWithin 1 255 bytes
set_within [] small set = tt
set_within (x ∷ bytes) small set =
    let low : x < 256 = small 0 in
    let some = set.0 in
    (low, omega (arith, some), omega (arith, low), set_within bytes (λ p. small (suc p)) set.1)

-- ---- a loop over one byte of a text

abbrev text_field : ByteField
text_field = record { mark = Number; width = 1; least = 1; last = 255; told = true }

text_here : (ops : List Op) (c : RecvCursor) → IsTextRun ops c → HasField ops c text_field
text_here ops c run = record { op = ReadText; there = run.text; taken = refl; view = λ at same. refl; wide = omega arith }

text_run : (ops : List Op) (c : RecvCursor) → IsTextRun ops c → IsRunOf ops c text_field
text_run ops c run = record { deep = run.deep; idle = run.idle; told = refl; no_length = λ e. absurd (cc); start = run.start; back = run.back }

text_fed : (ops : List Op) (taken bytes more : List ℕ) (c : RecvCursor) (many : ℕ) → IsTextRun ops c → length c.loops ≡ 8 → 0 < many → many ≤ (inner_loop c).turns → length more ≡ many
    → AreWithin 1 255 more → Stands ops taken c bytes → IsFed ops (taken ++ more) (after_bytes c many) (bytes ++ more) []
text_fed ops taken bytes more c many run long some few whole right s =
    let deep = stance_depth ops c s.at.stance in
    let one_more : many ≡ suc (many - 1) = omega (arith, some) in
    let span = spanned more ops taken c text_field [] (text_here ops c run) (text_run ops c run) refl (omega (arith, few, whole)) deep long right in
    let last : span_turns (length more) c text_field ≡ after_bytes c many
    = ap (λ (k : ℕ). span_turns k c text_field) (whole ∙ one_more) ∙ span_far (many - 1) c text_field refl run.deep deep long (omega (arith, few, some)) ∙ ap (after_bytes c) (sym one_more) in
    let first : IsFed ops taken c (bytes ++ more) (more ++ []) = subst (λ (left : List ℕ). IsFed ops taken c (bytes ++ more) left) (sym (append-nil more)) (fed_first ops taken bytes more c s) in
    subst (λ (x : RecvCursor). IsFed ops (taken ++ more) x (bytes ++ more) []) last (span.fed (bytes ++ more) first)

-- a run stands where it stands, whatever it counts, at the same place modulo 8
phased : (ops : List Op) (taken : List ℕ) (c : RecvCursor) (bytes : List ℕ) (p n : ℕ) → c.have ≡ 0 → p % 8 ≡ c.phase % 8 → Stands ops taken c bytes → Stands ops taken (record c { phase = p; count = n }) bytes
phased ops taken c bytes p n idle same s =
    let a = s.at in
    record {
      at = record { done = a.done; stance = a.stance; phase = same ∙ a.phase; reach = a.reach; waiting = a.waiting; bytes_are = a.bytes_are; quiet = λ busy. absurd (busy idle) };
      shows = s.shows;
    }

pub passes_text : (ops : List Op) (c d : RecvCursor) (words : List ℕ) → IsTextRun ops c → length c.loops ≡ 8 → 56 ≤ (inner_loop c).turns → length words ≡ 7 → AreSet (words_bytes words) → d ≡ after_fragment c → PassesText ops c words d
passes_text ops c d words run long many seven set is taken bytes s =
    let more : List ℕ = words_bytes words in
    let on : RecvCursor = after_bytes c 56 in
    let whole : length more ≡ 56 = omega (arith, length_words words, seven) in
    let fed = text_fed ops taken bytes more c 56 run long (omega arith) many whole (set_within more (words_small words) set) s in
    let field = run_field ops c on text_field (text_here ops c run) refl refl in
    let stands = phased ops (taken ++ more) on (bytes ++ more) c.phase c.count run.idle (omega arith) (stands_after ops (taken ++ more) on (bytes ++ more) [] fed refl) in
    (subst (λ (x : RecvCursor). Stands ops (taken ++ more) x (bytes ++ more)) (sym is) stands, begins_after ops (taken ++ more) on (bytes ++ more) [] text_field fed field refl)

-- ---- a call under way

pub kept_text : (plan : PlanNo) (i : TheInterface) (parts : List Frag) (b : PartialCall) (f : Frag) (ops : List Op) (d : RecvCursor) (k : IsKept plan i parts b)
    → Taking plan i k.taken (counting (length k.taken) b) f ops → PassesText ops b.intake f.words d → d.count ≡ b.intake.count
    → IsPart plan i (parts ++ f ∷ []) × IsKept plan i (parts ++ bare f ∷ []) (record { msg = b.msg; fed = b.fed + 1; intake = d })
kept_text plan i parts b f ops d k x passes same =
    let more : List ℕ = words_bytes f.words in
    let n : ℕ = length more in
    let none : d.count ≡ 0 = same ∙ k.none in
    let before : List ℕ = k.taken ++ take b.intake.count [] in
    let now = passes before x.bytes (kept_stands plan i parts b f ops [] k x) in
    let is : before ++ more ≡ k.taken ++ take n more
    = ap (λ (m : ℕ). (k.taken ++ take m []) ++ more) k.none ∙ ap (λ (xs : List ℕ). xs ++ more) (append-nil k.taken) ∙ ap (λ (xs : List ℕ). k.taken ++ xs) (sym (take_all n more (omega arith))) in
    let stands : Stands ops (k.taken ++ take n more) (record d { count = n }) (x.bytes ++ more)
    = subst (λ (t : List ℕ). Stands ops t (record d { count = n }) (x.bytes ++ more)) is (counted ops (before ++ more) d (x.bytes ++ more) n now.0) in
    subst (λ (m : ℕ). IsPart plan i (parts ++ f ∷ []) × IsKept plan i (parts ++ bare f ∷ []) (record { msg = b.msg; fed = b.fed + 1; intake = record d { count = m } })) (sym none)
    (kept_on plan i parts b f ops more (record d { count = n }) k x stands now.1)
