-- What a declaration adds: messages, or a type.
use Rattle.std.proofs.Common.{◌≡◌, ℕ, List, [], ◌∷◌, ◌++◌, map, false, refl, sym, ap, ◌∙◌, subst, append-nil, Result, Ok, Err, OnOk}
use Rattle.std.specs.Str.{bytes_eq}
use Rattle.std.proofs.lemmas.List.{map_push}
use Rattle.fl_interface.specs.Interface.{TheType, TheArgType, TheMessage}
use Rattle.fl_interface.specs.Limits.{is_among}
use Rattle.fl_check.specs.Known.{Named, Before, call_name, response_name}
use Rattle.fl_check.specs.declared.fault.CheckFault.{CheckFault}
use Rattle.fl_parse.specs.Tree.{TheName}
use Rattle.fl_check.proofs.Limits.{among_push, other_name}

-- a second name is new where it isn't among the names, though another was added
pub second_new : (ms ms2 : List TheMessage) (m : TheMessage) (response : List ℕ) → ms2 ≡ ms ++ m ∷ [] → bytes_eq m.name response ≡ false → is_among (map (λ (x : TheMessage). x.name) ms) response ≡ false → is_among (map (λ (x : TheMessage). x.name) ms2) response ≡ false
second_new ms ms2 m response e two new =
    ap (λ (l : List TheMessage). is_among (map (λ (x : TheMessage). x.name) l) response) e
    ∙ ap (λ l. is_among l response) (map_push (λ (x : TheMessage). x.name) ms m)
    ∙ among_push (map (λ (x : TheMessage). x.name) ms) m.name response new two

-- the names of an rpc's call and response are two
pub two_names : (n : TheName) (call response : List ℕ) → call ≡ call_name n → response ≡ response_name n → bytes_eq call response ≡ false
two_names n call response p q =
    ap (λ a. bytes_eq a response) p ∙ ap (λ b. bytes_eq (call_name n) b) q ∙ other_name n (bytes_eq (call_name n) (response_name n)) refl

both_same : (b : Before) (ts : List Named) (ms : List TheMessage) → b.types ≡ ts → b.messages ≡ ms → b ≡ record { types = ts; messages = ms }
both_same b ts ms p q =
    subst (λ t. b ≡ (let s : Before = record { types = t; messages = ms } in s)) p
    (subst (λ m. b ≡ (let s : Before = record { types = b.types; messages = m } in s)) q refl)

-- messages that a call at the end adds, and no types
pub messages_added : {T : Type 0} (r : Result T CheckFault) (b b2 : Before) (ms ns : List TheMessage) → OnOk r (b2.types ≡ b.types)
    → OnOk r (b2.messages ≡ b.messages ++ ms) → ms ≡ ns → OnOk r (b2 ≡ record { types = b.types ++ []; messages = b.messages ++ ns })
messages_added (Ok v) b b2 ms ns t m e = both_same b2 (b.types ++ []) (b.messages ++ ns) (t ∙ sym (append-nil b.types)) (m ∙ ap (λ l. b.messages ++ l) e)
messages_added (Err x) b b2 ms ns t m e = tt

pub same_message : (n n2 : List ℕ) (ts us : List TheArgType) → n ≡ n2 → ts ≡ us
    → (let m : TheMessage = record { name = n; args = ts } in m) ≡ (let m : TheMessage = record { name = n2; args = us } in m)
same_message n n2 ts us p q = cc

pub same_two : {X : Type 0} (a a2 b b2 : X) → a ≡ a2 → b ≡ b2 → a ∷ (b ∷ []) ≡ a2 ∷ (b2 ∷ [])
same_two a a2 b b2 p q = cc

-- a type that a call at the end adds, and no messages
pub type_added : {T : Type 0} (r : Result T CheckFault) (b b2 : Before) (n : List ℕ) (t u : TheType)
    → OnOk r (b2.types ≡ b.types ++ (let k : Named = record { name = n; type = t } in k) ∷ []) → OnOk r (b2.messages ≡ b.messages) → t ≡ u
    → OnOk r (b2 ≡ record { types = b.types ++ (let k : Named = record { name = n; type = u } in k) ∷ []; messages = b.messages ++ [] })
type_added (Ok v) b b2 n t u h m e =
    both_same b2 _ _ (h ∙ ap (λ x. b.types ++ (let k : Named = record { name = n; type = x } in k) ∷ []) e) (m ∙ sym (append-nil b.messages))
type_added (Err x) b b2 n t u h m e = tt
