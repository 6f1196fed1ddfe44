-- Out of memory comes after the place that is looked at first.
use Rattle.std.proofs.Common.{◌≡◌, ◌<◌, ℕ, zero, suc, ◌+◌, nat_eq, List, [], ◌∷◌, length, map, take, get_or, None, refl, sym, ◌∙◌, subst, arith, Result, Ok, Err, IfErr}
use Rattle.std.specs.List.{All}
use Rattle.std.specs.Result.{IsErrAnd}
use Rattle.fl_check.specs.Known.{Before, nothing_declared}
use Rattle.fl_check.specs.Places.{TextPlace, other_place, new_type_place, field_place, field_places, declaration_places, places_from, first_look, first_looks}
use Rattle.fl_check.specs.Checks.{IsSound, first_fault}
use Rattle.fl_check.specs.Faults.{ComesAfter}
use Rattle.fl_check.specs.declared.fault.CheckFault.{CheckFault}
use Rattle.fl_check.specs.declared.fault.CheckFault.TheVariants.{Broken, Memory}
use Rattle.fl_parse.specs.declared.tree.Field.{Field}
use Rattle.fl_parse.specs.declared.tree.Declaration.{Declaration}
use Rattle.fl_parse.specs.Tree.{field_of, declaration_of, TheName, TheField, TheDeclaration, alias_of, typedef_of, enum_of, struct_of, message_of, rpc_of}
use Rattle.fl_check.proofs.FirstFaults.{first_sound, none_prefix}
use Rattle.fl_check.proofs.Walks.{no_places}
use Rattle.fl_check.proofs.Firsts.{all_sound}

-- ---- errors

pub sound_before : (e : CheckFault) (looks : List TextPlace) → first_fault looks ≡ None → ComesAfter e looks
sound_before (Broken r at) looks h = tt
sound_before Memory looks h = h

-- the error of a `?` is the callee's
pub err_after : {T : Type 0} (r : Result T CheckFault) (e : CheckFault) (looks : List TextPlace) → IsErrAnd r (λ x. x ≡ e) → ComesAfter e looks
    → IfErr r (λ x. ComesAfter x looks)
err_after (Ok v) e looks h t = absurd h
err_after (Err x) e looks h t = subst (λ y. ComesAfter y looks) (sym h) t

-- a call behind the first look
pub call_after : {T : Type 0} (r : Result T CheckFault) (looks : List TextPlace) → first_fault looks ≡ None → IfErr r (λ x. ComesAfter x looks)
call_after (Ok v) looks h = tt
call_after (Err x) looks h = sound_before x looks h

pub memory_sound : {T : Type 0} (r : Result T CheckFault) (e : CheckFault) (looks : List TextPlace) → IsErrAnd r (λ x. x ≡ e) → ComesAfter e looks
    → IfErr r (λ x. x ≡ Memory → All IsSound looks)
memory_sound (Ok v) e looks h t = absurd h
memory_sound (Err x) e looks h t = λ m. all_sound looks (subst (λ y. ComesAfter y looks) (sym h ∙ m) t)

-- ---- declarations

-- no name stands before the first enumerator
member_sound : (m : TheName) → first_fault (other_place [] m ∷ []) ≡ None
unfolding first_fault other_place
member_sound m = refl

pub enum_after : (b : Before) (ms : List TheName) (name : TheName) (e : CheckFault) → ComesAfter e (new_type_place b name (nat_eq (length ms) 0) ∷ [])
    → ComesAfter e (first_look b (enum_of ms name))
enum_after b [] name e h = h
enum_after b (m ∷ ms) name e h = sound_before e (other_place [] m ∷ []) (member_sound m)

pub some_members : (b : Before) (ms : List TheName) (name : TheName) (e : CheckFault) → 0 < length ms → ComesAfter e (first_look b (enum_of ms name))
some_members b [] name e some = absurd (omega (arith, some))
some_members b (m ∷ ms) name e some = sound_before e (other_place [] m ∷ []) (member_sound m)

pub some_fields : (b : Before) (fs : List TheField) (name : TheName) (e : CheckFault) → 0 < length fs → ComesAfter e (take 1 (field_places b [] fs))
    → ComesAfter e (first_look b (struct_of fs name))
some_fields b [] name e some h = absurd (omega (arith, some))
some_fields b (f ∷ fs) name e some h = h

pub struct_after : (b : Before) (fs : List TheField) (name : TheName) (e : CheckFault) → first_fault (field_places b [] fs) ≡ None
    → ComesAfter e (new_type_place b name (nat_eq (length fs) 0) ∷ []) → ComesAfter e (first_look b (struct_of fs name))
struct_after b [] name e sound h = h
struct_after b (f ∷ fs) name e sound h = sound_before e (take 1 (field_places b [] (f ∷ fs))) (first_sound (field_places b [] (f ∷ fs)) sound)

pub look_sound : (b : Before) (d : TheDeclaration) → first_fault (declaration_places b d) ≡ None → first_fault (first_look b d) ≡ None
look_sound b (alias_of new old) h = first_sound (declaration_places b (alias_of new old)) h
look_sound b (typedef_of old new count) h = first_sound (declaration_places b (typedef_of old new count)) h
look_sound b (enum_of ms name) h = first_sound (declaration_places b (enum_of ms name)) h
look_sound b (struct_of fs name) h = first_sound (declaration_places b (struct_of fs name)) h
look_sound b (message_of kind name args) h = first_sound (declaration_places b (message_of kind name args)) h
look_sound b (rpc_of name args) h = no_places

pub looks_sound : (ds : List TheDeclaration) → first_fault (places_from nothing_declared ds) ≡ None → All IsSound (first_looks ds)
looks_sound [] h = all_sound [] h
looks_sound (d ∷ ds) h = all_sound (first_look nothing_declared d) (look_sound nothing_declared d (none_prefix (declaration_places nothing_declared d) _ h))

pub memory_after : {T : Type 0} (r : Result T CheckFault) (ds : List TheDeclaration) → first_fault (places_from nothing_declared ds) ≡ None
    → IfErr r (λ x. x ≡ Memory → All IsSound (first_looks ds))
memory_after (Ok v) ds h = tt
memory_after (Err x) ds h = λ m. looks_sound ds h

-- ---- loops

-- before part i of a loop, with s before that part: the first part has s0 before it, and after it its look found nothing
abbrev pub Looked : {S X : Type 0} → (List X → List TextPlace) → S → S → List X → ℕ → Type 0
Looked look s0 s xs i = (i ≡ 0 → s ≡ s0) × (0 < i → first_fault (look xs) ≡ None)

pub looked_fault : {S X : Type 0} (look : List X → List TextPlace) (here : S → X → List TextPlace) (s0 s : S) (e : CheckFault) (xs : List X) (i : ℕ) (x d : X)
    → ((x : X) (xs : List X) → look (x ∷ xs) ≡ here s0 x) → i < length xs → x ≡ get_or xs i d → Looked look s0 s xs i → ComesAfter e (here s x)
    → ComesAfter e (look xs)
looked_fault look here s0 s e [] i x d same h q l t = absurd (omega (arith, h))
looked_fault look here s0 s e (y ∷ ys) zero x d same h q l t =
    let first : x ≡ y = q in
    subst (ComesAfter e) (sym (same y ys)) (subst (λ z. ComesAfter e (here s0 z)) first (subst (λ z. ComesAfter e (here z x)) (l.0 refl) t))
looked_fault look here s0 s e (y ∷ ys) (suc i) x d same h q l t = sound_before e (look (y ∷ ys)) (l.1 (omega arith))

pub looked_on : {S X : Type 0} (look : List X → List TextPlace) (here : S → X → List TextPlace) (s0 s s2 : S) (xs : List X) (i : ℕ) (x d : X)
    → ((x : X) (xs : List X) → look (x ∷ xs) ≡ here s0 x) → i < length xs → x ≡ get_or xs i d → Looked look s0 s xs i → first_fault (here s x) ≡ None
    → Looked look s0 s2 xs (i + 1)
looked_on look here s0 s s2 xs i x d same h q l t =
    (λ e. absurd (omega (arith, e)), λ _. looked_fault look here s0 s Memory xs i x d same h q l t)

abbrev pub fields_look : Before → List Field → List TextPlace
fields_look b fs = take 1 (field_places b [] (map field_of fs))

pub field_looked : (b : Before) (s : List (List ℕ)) (e : CheckFault) (fs : List Field) (i : ℕ) (f d : Field) → i < length fs → f ≡ get_or fs i d
    → Looked (fields_look b) [] s fs i → ComesAfter e (take 1 (field_place b s (field_of f))) → ComesAfter e (fields_look b fs)
field_looked b s e fs i f d = looked_fault (fields_look b) (λ s f. take 1 (field_place b s (field_of f))) [] s e fs i f d (λ x xs. refl)

pub field_looked_on : (b : Before) (s s2 : List (List ℕ)) (fs : List Field) (i : ℕ) (f d : Field) → i < length fs → f ≡ get_or fs i d
    → Looked (fields_look b) [] s fs i → first_fault (field_place b s (field_of f)) ≡ None → Looked (fields_look b) [] s2 fs (i + 1)
field_looked_on b s s2 fs i f d h q l sound =
    looked_on (fields_look b) (λ s f. take 1 (field_place b s (field_of f))) [] s s2 fs i f d (λ x xs. refl) h q l (first_sound (field_place b s (field_of f)) sound)

abbrev pub declarations_look : List Declaration → List TextPlace
declarations_look ds = first_looks (map declaration_of ds)

pub declaration_looked : (b : Before) (e : CheckFault) (ds : List Declaration) (i : ℕ) (x d : Declaration) → i < length ds → x ≡ get_or ds i d
    → Looked declarations_look nothing_declared b ds i → ComesAfter e (first_look b (declaration_of x)) → ComesAfter e (declarations_look ds)
declaration_looked b e ds i x d = looked_fault declarations_look (λ b x. first_look b (declaration_of x)) nothing_declared b e ds i x d (λ x xs. refl)

pub declaration_looked_on : (b b2 : Before) (ds : List Declaration) (i : ℕ) (x d : Declaration) → i < length ds → x ≡ get_or ds i d
    → Looked declarations_look nothing_declared b ds i → first_fault (declaration_places b (declaration_of x)) ≡ None
    → Looked declarations_look nothing_declared b2 ds (i + 1)
declaration_looked_on b b2 ds i x d h q l sound =
    looked_on declarations_look (λ b x. first_look b (declaration_of x)) nothing_declared b b2 ds i x d (λ x xs. refl) h q l
    (look_sound b (declaration_of x) sound)
