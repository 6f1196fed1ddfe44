-- Arguments and messages: what is read is spelled so, and what is spelled so is read.
use Rattle.std.proofs.Common.{◌≡◌, ℕ, ◌<◌, ◌≤◌, ◌⊎◌, inl, inr, ⊎_elim, true, false, cond, eqb, List, [], ◌∷◌, ◌++◌, length, Ok, refl, sym, ap, subst, ◌∙◌, arith}
use Rattle.std.specs.Prelude.{nat_le}
use Rattle.std.specs.List.{flat_map}
use Rattle.std.proofs.lemmas.Bool.{eqb-true, leb-true}
use Rattle.fl_interface.specs.declared.interface.Scalar.TheVariants.{Uint8, Int8, Bool as BoolType, Char, Uint16, Int16, Uint32, Int32, Iref, Uint64, Int64, Uintptr, Intptr, Size, Errval}
use Rattle.fl_interface.specs.Interface.{TheType, scalar, enumeration, structure, array, TheArgType, fixed, text, sized, TheMessage, TheInterface}
use Rattle.fl_image.specs.Image.{one, two, name_image, is_name, type_image, argument_image, message_image, interface_image}
use Rattle.fl_image.specs.Reading.{◌>>=◌, many_at, more_at, one_at, two_at, name_at, type_at, text_at, sized_at, fixed_at, argument_at, argument_count_at, arguments_at, message_at, is_next, message_after, message_count_at, messages_at, interface_at}
use Rattle.fl_image.proofs.ReadBack.{IsBytes, Law, Takes, follow, mapped, ranged, many, more, IsList, AllAfter}
use Rattle.fl_image.proofs.Numbers.{one_law, two_law, name_law, bytes_behind}
use Rattle.fl_image.proofs.TypeLaws.{NestsIn, type_law, picked}

-- ---- arguments

-- what stands behind the code of a string or a sized array
abbrev behind_code : TheArgType → List ℕ
behind_code (fixed t) = []
behind_code (text most) = two most
behind_code (sized most t) = two most ++ type_image t

abbrev IsText : TheArgType → Type 0
IsText a = (n : ℕ) × (a ≡ text n) × (n < 65536)

abbrev IsSized : TheArgType → Type 0
IsSized a = (n : ℕ) × (t : TheType) × (a ≡ sized n t) × (n < 65536) × NestsIn 17 t

abbrev IsFixed : TheArgType → Type 0
IsFixed a = (t : TheType) × (a ≡ fixed t) × NestsIn 18 t

abbrev pub HasArgument : TheArgType → Type 0
HasArgument a = IsText a ⊎ (IsSized a ⊎ IsFixed a)

text_law : Law text_at behind_code IsText
unfolding text_at
text_law = mapped two_at two (λ n. n < 65536) text behind_code IsText two_law record {
  made = λ n lt. (refl, (n, refl, lt));
  cut = λ a h. (h.0, sym h.1, h.2);
}

-- what stands behind a sized array's bound
abbrev behind_bound : TheArgType → List ℕ
behind_bound (fixed t) = []
behind_bound (text most) = []
behind_bound (sized most t) = type_image t

abbrev HasElement : ℕ → TheArgType → Type 0
HasElement n a = (t : TheType) × (a ≡ sized n t) × NestsIn 17 t

sized_law : Law sized_at behind_code IsSized
unfolding sized_at
sized_law = follow two_at two (λ n. n < 65536) (λ n bytes. type_at 17 bytes >>= λ element. Ok (sized n element.0, element.1)) (λ n. behind_bound) HasElement behind_code IsSized two_law
    (λ n lt. mapped (type_at 17) type_image (NestsIn 17) (sized n) behind_bound (HasElement n) (type_law 17) record {
      made = λ t h. (refl, (t, refl, h));
      cut = λ a h. (h.0, sym h.1, h.2);
    })
    record {
      joined = λ n a lt h. (subst (λ (b : TheArgType). behind_code b ≡ two n ++ behind_bound b) (sym h.1) refl, (n, h.0, h.1, lt, h.2));
      cut = λ a h. (h.0, h.3, (h.1, h.2, h.4));
    }

fixed_law : Law fixed_at argument_image IsFixed
unfolding fixed_at
fixed_law = mapped (type_at 18) type_image (NestsIn 18) fixed argument_image IsFixed (type_law 18) record {
  made = λ t h. (refl, (t, refl, h));
  cut = λ a h. (h.0, sym h.1, h.2);
}

behind : (code known : ℕ) (bytes image rest : List ℕ) → code ≡ known → Takes bytes image rest → Takes (code ∷ bytes) (known ∷ image) rest
behind code known bytes image rest e t = record { parts = rw (e, t.parts) refl; rest_fits = t.rest_fits }

argument_takes : (bytes : List ℕ) (a : TheArgType) (rest : List ℕ) → IsBytes bytes → argument_at bytes ≡ Ok (a, rest) → Takes bytes (argument_image a) rest × HasArgument a
unfolding argument_at
argument_takes [] a rest h e = absurd cc
argument_takes (code ∷ bytes) a rest h e =
    ⊎_elim
    (λ (p : (eqb code 32 ≡ true) × (text_at bytes ≡ Ok (a, rest))).
    let x = text_law.takes bytes a rest (bytes_behind code bytes h) p.1 in
    let t : Takes (code ∷ bytes) (32 ∷ behind_code a) rest = behind code 32 bytes (behind_code a) rest (eqb-true code 32 p.0) x.0 in
    let image : argument_image a ≡ 32 ∷ behind_code a = subst (λ (b : TheArgType). argument_image b ≡ 32 ∷ behind_code b) (sym x.1.1) refl in
    (subst (λ (w : List ℕ). Takes (code ∷ bytes) w rest) (sym image) t, inl x.1))
    (λ (q : (eqb code 32 ≡ false) × (cond (eqb code 33) (sized_at bytes) (fixed_at (code ∷ bytes)) ≡ Ok (a, rest))).
    ⊎_elim
    (λ (p : (eqb code 33 ≡ true) × (sized_at bytes ≡ Ok (a, rest))).
    let x = sized_law.takes bytes a rest (bytes_behind code bytes h) p.1 in
    let t : Takes (code ∷ bytes) (33 ∷ behind_code a) rest = behind code 33 bytes (behind_code a) rest (eqb-true code 33 p.0) x.0 in
    let image : argument_image a ≡ 33 ∷ behind_code a = subst (λ (b : TheArgType). argument_image b ≡ 33 ∷ behind_code b) (sym x.1.2) refl in
    (subst (λ (w : List ℕ). Takes (code ∷ bytes) w rest) (sym image) t, inr (inl x.1)))
    (λ (p : (eqb code 33 ≡ false) × (fixed_at (code ∷ bytes) ≡ Ok (a, rest))).
    let x = fixed_law.takes (code ∷ bytes) a rest h p.1 in
    (x.0, inr (inr x.1)))
    (picked (eqb code 33) (sized_at bytes) (fixed_at (code ∷ bytes)) (Ok (a, rest)) q.1))
    (picked (eqb code 32) (text_at bytes) (cond (eqb code 33) (sized_at bytes) (fixed_at (code ∷ bytes))) (Ok (a, rest)) e)

-- a fixed type's code is no string's and no sized array's
fixed_first : (t : TheType) (rest : List ℕ) → argument_at (type_image t ++ rest) ≡ fixed_at (type_image t ++ rest)
unfolding argument_at
fixed_first (scalar Uint8) rest = refl
fixed_first (scalar Int8) rest = refl
fixed_first (scalar BoolType) rest = refl
fixed_first (scalar Char) rest = refl
fixed_first (scalar Uint16) rest = refl
fixed_first (scalar Int16) rest = refl
fixed_first (scalar Uint32) rest = refl
fixed_first (scalar Int32) rest = refl
fixed_first (scalar Iref) rest = refl
fixed_first (scalar Uint64) rest = refl
fixed_first (scalar Int64) rest = refl
fixed_first (scalar Uintptr) rest = refl
fixed_first (scalar Intptr) rest = refl
fixed_first (scalar Size) rest = refl
fixed_first (scalar Errval) rest = refl
fixed_first (enumeration n) rest = refl
fixed_first (structure ts) rest = refl
fixed_first (array n t) rest = refl

argument_again : (a : TheArgType) (rest : List ℕ) → HasArgument a → argument_at (argument_image a ++ rest) ≡ Ok (a, rest)
unfolding argument_at
argument_again a rest (inl h) =
    subst (λ (b : TheArgType). argument_at (argument_image b ++ rest) ≡ Ok (b, rest)) (sym h.1) (text_law.again (text h.0) rest (h.0, refl, h.2))
argument_again a rest (inr (inl h)) =
    subst (λ (b : TheArgType). argument_at (argument_image b ++ rest) ≡ Ok (b, rest)) (sym h.2) (sized_law.again (sized h.0 h.1) rest (h.0, h.1, refl, h.3, h.4))
argument_again a rest (inr (inr h)) =
    subst (λ (b : TheArgType). argument_at (argument_image b ++ rest) ≡ Ok (b, rest)) (sym h.1) (fixed_first h.0 rest ∙ fixed_law.again (fixed h.0) rest (h.0, refl, h.2))

pub argument_law : Law argument_at argument_image HasArgument
argument_law = record { takes = argument_takes; again = argument_again }

abbrev pub HasArguments : List TheArgType → Type 0
HasArguments args = (nat_le (length args) 32 ≡ true) × AllAfter (λ before. HasArgument) [] args

arguments_law : Law arguments_at (λ args. one (length args) ++ flat_map argument_image args) HasArguments
unfolding arguments_at argument_count_at
arguments_law = follow argument_count_at one (λ n. (n < 256) × (nat_le n 32 ≡ true)) (λ n. many_at argument_at n) (λ n. flat_map argument_image) (IsList HasArgument) (λ args. one (length args) ++ flat_map argument_image args) HasArguments
    (ranged one_at one (λ n. n < 256) (λ n. nat_le n 32) one_law) (λ n h. many argument_at argument_image HasArgument argument_law n) record {
      joined = λ n args h1 h2. (ap (λ (k : ℕ). one k ++ flat_map argument_image args) h2.0, (ap (λ (k : ℕ). nat_le k 32) h2.0 ∙ h1.1, h2.1));
      cut = λ args h.
          let few : length args ≤ 32 = leb-true _ _ h.0 in
          (length args, (omega (arith, few), h.0), (refl, h.1));
    }

-- ---- messages

pub record HasMessage (m : TheMessage) : Type 0 where
  pub name : is_name m.name ≡ true
  pub args : HasArguments m.args

abbrev NamedSo : List ℕ → TheMessage → Type 0
NamedSo name m = (name ≡ m.name) × HasArguments m.args

message_law : Law message_at message_image HasMessage
unfolding message_at
message_law = follow name_at name_image (λ w. is_name w ≡ true) (λ name bytes. arguments_at bytes >>= λ args. Ok (record { name = name; args = args.0 }, args.1)) (λ name m. one (length m.args) ++ flat_map argument_image m.args) NamedSo message_image HasMessage name_law
    (λ name h. mapped arguments_at (λ args. one (length args) ++ flat_map argument_image args) HasArguments (λ args. record { name = name; args = args }) (λ m. one (length m.args) ++ flat_map argument_image m.args) (NamedSo name) arguments_law record {
      made = λ args fits. (refl, (refl, fits));
      cut = λ m fits. (m.args, ap (λ (n : List ℕ). record { name = n; args = m.args }) fits.0, fits.1);
    })
    record {
      joined = λ name m h fits. (ap (λ (n : List ℕ). name_image n ++ (one (length m.args) ++ flat_map argument_image m.args)) (sym fits.0), record { name = subst (λ (w : List ℕ). is_name w ≡ true) fits.0 h; args = fits.1 });
      cut = λ m h. (m.name, h.name, (refl, h.args));
    }

-- a message that may stand behind those
abbrev pub IsNext : List TheMessage → TheMessage → Type 0
IsNext before m = HasMessage m × (is_next before m ≡ true)

after_law : (before : List TheMessage) → Law (message_after before) message_image (IsNext before)
unfolding message_after
after_law before = ranged message_at message_image HasMessage (is_next before) message_law

abbrev pub HasMessages : List TheMessage → Type 0
HasMessages ms = (nat_le (length ms) 256 ≡ true) × AllAfter IsNext [] ms

messages_law : Law messages_at (λ ms. two (length ms) ++ flat_map message_image ms) HasMessages
unfolding messages_at message_count_at
messages_law = follow message_count_at two (λ n. (n < 65536) × (nat_le n 256 ≡ true)) (λ n. more_at message_after n []) (λ n. flat_map message_image) (λ n ms. (length ms ≡ n) × AllAfter IsNext [] ms) (λ ms. two (length ms) ++ flat_map message_image ms) HasMessages
    (ranged two_at two (λ n. n < 65536) (λ n. nat_le n 256) two_law) (λ n h. more message_after message_image IsNext after_law n) record {
      joined = λ n ms h1 h2. (ap (λ (k : ℕ). two k ++ flat_map message_image ms) h2.0, (ap (λ (k : ℕ). nat_le k 256) h2.0 ∙ h1.1, h2.1));
      cut = λ ms h.
          let few : length ms ≤ 256 = leb-true _ _ h.0 in
          (length ms, (omega (arith, few), h.0), (refl, h.1));
    }

-- ---- interfaces

pub record HasInterface (x : TheInterface) : Type 0 where
  pub name : is_name x.name ≡ true
  pub messages : HasMessages x.messages

abbrev CalledSo : List ℕ → TheInterface → Type 0
CalledSo name x = (name ≡ x.name) × HasMessages x.messages

pub interface_law : Law interface_at interface_image HasInterface
unfolding interface_at
interface_law = follow name_at name_image (λ w. is_name w ≡ true) (λ name bytes. messages_at bytes >>= λ messages. Ok (record { name = name; messages = messages.0 }, messages.1)) (λ name x. two (length x.messages) ++ flat_map message_image x.messages) CalledSo interface_image HasInterface name_law
    (λ name h. mapped messages_at (λ ms. two (length ms) ++ flat_map message_image ms) HasMessages (λ ms. record { name = name; messages = ms }) (λ x. two (length x.messages) ++ flat_map message_image x.messages) (CalledSo name) messages_law record {
      made = λ ms fits. (refl, (refl, fits));
      cut = λ x fits. (x.messages, ap (λ (n : List ℕ). record { name = n; messages = x.messages }) fits.0, fits.1);
    })
    record {
      joined = λ name x h fits. (ap (λ (n : List ℕ). name_image n ++ (two (length x.messages) ++ flat_map message_image x.messages)) (sym fits.0), record { name = subst (λ (w : List ℕ). is_name w ≡ true) fits.0 h; messages = fits.1 });
      cut = λ x h. (x.name, h.name, (refl, h.messages));
    }
