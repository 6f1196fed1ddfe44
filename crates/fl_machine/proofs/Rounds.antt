-- A call's fragments, fed one after another.
use Rattle.std.proofs.Common.{◌≡◌, ℕ, suc, ◌+◌, ◌<◌, true, List, [], ◌∷◌, ◌++◌, map, take, length, Result, Ok, Err, refl, sym, ◌∙◌, ap, subst, arith, append_assoc}
use Rattle.std.proofs.lemmas.List.{length-append, length-map, map-append, append-nil, take_at}
use Rattle.fl_base.specs.declared.fragment.Frag.{Frag}
use Rattle.fl_base.specs.Control.{body, bare}
use Rattle.fl_interface.specs.Interface.{TheInterface}
use Rattle.fl_value_data.specs.declared.value.PlanNo.{PlanNo}
use Rattle.fl_value_data.specs.Value.{TheCall}
use Rattle.fl_value_data.specs.Fits.{fits_of}
use Rattle.fl_layout.specs.Places.{count}
use Rattle.fl_wire.specs.Payload.{frags_of}
use Rattle.fl_wire.specs.Reading.{Means, IsPart}
use Rattle.fl_interface.specs.Counts.{interface_words_fit}
use Rattle.fl_wire.specs.declared.fault.WireFault.{WireFault}
use Rattle.fl_wire.proofs.Readings.{length_frags, count_positive, begins_with}
use Rattle.fl_compile.specs.declared.program.Program.{Program}
use Rattle.fl_compile.specs.Programs.{program_of}
use Rattle.fl_machine.specs.declared.intake.Fed.{Fed}
use Rattle.fl_machine.specs.declared.intake.Fed.TheVariants.{Part, Whole}
use Rattle.fl_machine.specs.Receiving.{TheReceiving, plan_in, interface_in}
use Rattle.fl_machine.specs.Rounds.{FeedsAll, whole_at_last, TakesFragments}
use Rattle.fl_machine.proofs.Feeding.{part_right, whole_right}

bare_twice : (f : Frag) → bare (bare f) ≡ bare f
bare_twice f =
    let control : body (body f.control) ≡ body f.control = omega arith in
    λ i. record { words = f.words; control = control i }

bare_all_twice : (frags : List Frag) → map bare (map bare frags) ≡ map bare frags
bare_all_twice [] = refl
bare_all_twice (f ∷ frags) = ap (λ (g : Frag). g ∷ map bare (map bare frags)) (bare_twice f) ∙ ap (λ (gs : List Frag). bare f ∷ gs) (bare_all_twice frags)

-- the fragments so far, with one more, in front of those that are left
pub record Prefixes (plan : PlanNo) (i : TheInterface) (c : TheCall) (parts : List Frag) (f : Frag) (rest : List Frag) : Type 0 where
  pub joined : map bare (parts ++ f ∷ []) ++ map bare rest ≡ frags_of plan i c
  pub long : length (map bare (parts ++ f ∷ [])) + length rest ≡ count plan i c

prefixes : (plan : PlanNo) (i : TheInterface) (c : TheCall) (parts done : List Frag) (f : Frag) (rest : List Frag) → parts ≡ map bare done → map bare (done ++ f ∷ rest) ≡ frags_of plan i c
    → Prefixes plan i c parts f rest
prefixes plan i c parts done f rest e is =
    let first : map bare (parts ++ f ∷ []) ≡ map bare (done ++ f ∷ [])
    = map-append bare parts (f ∷ []) ∙ ap (λ (fs : List Frag). map bare fs ++ bare f ∷ []) e ∙ ap (λ (fs : List Frag). fs ++ bare f ∷ []) (bare_all_twice done) ∙ sym (map-append bare done (f ∷ [])) in
    let joined : map bare (parts ++ f ∷ []) ++ map bare rest ≡ frags_of plan i c
    = ap (λ (fs : List Frag). fs ++ map bare rest) first ∙ sym (map-append bare (done ++ f ∷ []) rest) ∙ ap (map bare) (append_assoc done (f ∷ []) rest) ∙ is in
    let all : length (map bare (parts ++ f ∷ [])) + length (map bare rest) ≡ count plan i c
    = sym (length-append (map bare (parts ++ f ∷ [])) (map bare rest)) ∙ ap length joined ∙ length_frags plan i c in
    record { joined = joined; long = omega (arith, all, length-map rest bare) }

-- with others left they are part of the call, and not a call's own
prefix_part : (plan : PlanNo) (i : TheInterface) (c : TheCall) (parts : List Frag) (f g : Frag) (rest : List Frag) → fits_of i c ≡ true → Prefixes plan i c parts f (g ∷ rest) → IsPart plan i (parts ++ f ∷ [])
prefix_part plan i c parts f g rest fits x =
    let all = parts ++ f ∷ [] in
    let few = length-map all bare in
    record {
      call = c;
      fits = fits;
      short = omega (arith, x.long, few);
      prefix = sym (take_at (map bare all) (map bare (g ∷ rest)) (length all) few) ∙ ap (take (length all)) x.joined;
    }

not_whole : (plan : PlanNo) (i : TheInterface) (c d : TheCall) (parts : List Frag) (f g : Frag) (rest : List Frag) → interface_words_fit i ≡ true → fits_of i c ≡ true → fits_of i d ≡ true
    → Prefixes plan i c parts f (g ∷ rest) → Means plan i (parts ++ f ∷ []) d 0 → ⊥
unfolding prefix_part
not_whole plan i c d parts f g rest words fc fd x means =
    let all = parts ++ f ∷ [] in
    let part = prefix_part plan i c parts f g rest fc x in
    let many : length all ≡ count plan i d = sym (length-map all bare) ∙ ap length means ∙ length_frags plan i d in
    let short : length all < count plan i c = part.short in
    let same : d ≡ c = begins_with plan i d c words fd fc (omega (arith, many, short)) (sym means ∙ part.prefix ∙ ap (λ (n : ℕ). take n (frags_of plan i c)) many) in
    let counts : count plan i d ≡ count plan i c = ap (count plan i) same in
    absurd (omega (arith, many, short, counts))

-- with none left they are the call's own, and not part of a call
prefix_whole : (plan : PlanNo) (i : TheInterface) (c : TheCall) (parts : List Frag) (f : Frag) → Prefixes plan i c parts f [] → Means plan i (parts ++ f ∷ []) c 0
prefix_whole plan i c parts f x = sym (append-nil (map bare (parts ++ f ∷ []))) ∙ x.joined

not_part : (plan : PlanNo) (i : TheInterface) (c : TheCall) (all : List Frag) → interface_words_fit i ≡ true → fits_of i c ≡ true → Means plan i all c 0 → IsPart plan i all → ⊥
not_part plan i c all words fits means part =
    let d = part.call in
    let many : length all ≡ count plan i c = sym (length-map all bare) ∙ ap length means ∙ length_frags plan i c in
    let same : c ≡ d = begins_with plan i c d words fits part.fits (omega (arith, many, part.short)) (sym means ∙ part.prefix ∙ ap (λ (n : ℕ). take n (frags_of plan i d)) many) in
    absurd (omega (arith, many, part.short, ap (count plan i) same))

-- ---- the rounds

-- what is known behind the last
pub record Took (p : Program) (c : TheCall) (n : ℕ) (answers : List (Result Fed WireFault)) (t : TheReceiving) : Type 0 where
  pub answers_are : answers ≡ whole_at_last n
  pub parts_are : t.parts ≡ []
  pub whole_is : t.whole ≡ frags_of (program_of p).plan (program_of p).interface c
  pub program : t.program ≡ p

-- the parts of a run with a fragment more, without their epochs
more_bare : (parts done : List Frag) (f : Frag) → parts ≡ map bare done → parts ++ bare f ∷ [] ≡ map bare (done ++ f ∷ [])
more_bare parts done f e = ap (λ (fs : List Frag). fs ++ bare f ∷ []) e ∙ sym (map-append bare done (f ∷ []))

abbrev plan_of : Program → PlanNo
plan_of p = (program_of p).plan

abbrev interface_of_program : Program → TheInterface
interface_of_program p = (program_of p).interface

rounds : (s t : TheReceiving) (c : TheCall) (done : List Frag) (f : Frag) (rest : List Frag) (answers : List (Result Fed WireFault)) → interface_words_fit (interface_in s) ≡ true → s.parts ≡ map bare done
    → fits_of (interface_in s) c ≡ true → map bare (done ++ f ∷ rest) ≡ frags_of (plan_in s) (interface_in s) c → FeedsAll s (f ∷ rest) answers t → Took s.program c (suc (length rest)) answers t
rounds s t c done f [] (Ok Part ∷ answers) words parts fits is (u, (adds, on), left) =
    let x = prefixes (plan_in s) (interface_in s) c s.parts done f [] parts is in
    absurd (not_part (plan_in s) (interface_in s) c (s.parts ++ f ∷ []) words fits (prefix_whole (plan_in s) (interface_in s) c s.parts f x) adds.part)
rounds s t c done f [] (Err fault ∷ answers) words parts fits is (u, (refused, same), left) =
    let x = prefixes (plan_in s) (interface_in s) c s.parts done f [] parts is in
    absurd (whole_right (plan_in s) (interface_in s) (s.parts ++ f ∷ []) c fits (prefix_whole (plan_in s) (interface_in s) c s.parts f x) refused.wrong)
rounds s t c done f [] (Ok Whole ∷ []) words parts fits is (u, (adds, on), left) = record {
  answers_are = refl;
  parts_are = ap (λ (r : TheReceiving). r.parts) left ∙ adds.parts_are;
  whole_is = ap (λ (r : TheReceiving). r.whole) left ∙ adds.whole_is ∙ more_bare s.parts done f parts ∙ is;
  program = ap (λ (r : TheReceiving). r.program) left ∙ on.program;
}
rounds s t c done f [] (Ok Whole ∷ r ∷ answers) words parts fits is (u, (adds, on), left) = absurd left
rounds s t c done f (g ∷ rest) (Err fault ∷ answers) words parts fits is (u, (refused, same), left) =
    let x = prefixes (plan_in s) (interface_in s) c s.parts done f (g ∷ rest) parts is in
    absurd (part_right (plan_in s) (interface_in s) (s.parts ++ f ∷ []) (prefix_part (plan_in s) (interface_in s) c s.parts f g rest fits x) refused.wrong)
rounds s t c done f (g ∷ rest) (Ok Whole ∷ answers) words parts fits is (u, (adds, on), left) =
    let x = prefixes (plan_in s) (interface_in s) c s.parts done f (g ∷ rest) parts is in
    absurd (not_whole (plan_in s) (interface_in s) c adds.call s.parts f g rest words fits adds.fits x adds.means)
rounds s t c done f (g ∷ rest) (Ok Part ∷ answers) words parts fits is (u, (adds, on), left) =
    let same = on.program in
    let more = rounds u t c (done ++ f ∷ []) g rest answers
    (subst (λ (p : Program). interface_words_fit (interface_of_program p) ≡ true) (sym same) words)
    (adds.parts_are ∙ more_bare s.parts done f parts)
    (subst (λ (p : Program). fits_of (interface_of_program p) c ≡ true) (sym same) fits)
    (ap (map bare) (append_assoc done (f ∷ []) (g ∷ rest)) ∙ subst (λ (p : Program). map bare (done ++ f ∷ g ∷ rest) ≡ frags_of (plan_of p) (interface_of_program p) c) (sym same) is)
    left in
    record {
      answers_are = ap (λ (rs : List (Result Fed WireFault)). Ok Part ∷ rs) more.answers_are;
      parts_are = more.parts_are;
      whole_is = more.whole_is ∙ ap (λ (p : Program). frags_of (plan_of p) (interface_of_program p) c) same;
      program = more.program ∙ same;
    }
rounds s t c done f rest [] words parts fits is left = absurd left

-- what is whole means no other call
only_call : (plan : PlanNo) (i : TheInterface) (c d : TheCall) (whole : List Frag) → interface_words_fit i ≡ true → fits_of i c ≡ true → fits_of i d ≡ true
    → map bare whole ≡ frags_of plan i c → Means plan i whole d 0 → d ≡ c
only_call plan i c d whole words fc fd is means =
    let both : frags_of plan i d ≡ frags_of plan i c = sym means ∙ is in
    let counts : count plan i d ≡ count plan i c = sym (length_frags plan i d) ∙ ap length both ∙ length_frags plan i c in
    begins_with plan i d c words fd fc (omega (arith, counts))
    (both ∙ sym (append-nil (frags_of plan i c)) ∙ all_of (frags_of plan i c) (count plan i d) (omega (arith, counts, length_frags plan i c)))
  where
    all_of : (fs : List Frag) (n : ℕ) → length fs ≡ n → fs ++ [] ≡ take n fs
    all_of fs n e = append-nil fs ∙ sym (take_at fs [] n e) ∙ ap (take n) (append-nil fs)

pub takes_fragments : TakesFragments
takes_fragments s t c [] answers words parts fits means left =
    absurd (omega (arith, ap length means, length_frags (plan_in s) (interface_in s) c, count_positive (plan_in s) (interface_in s) c))
takes_fragments s t c (f ∷ rest) answers words parts fits means left =
    let x = rounds s t c [] f rest answers words parts fits means left in
    record {
      answers_are = x.answers_are;
      parts_are = x.parts_are;
      whole_is = x.whole_is;
      program = x.program;
      only = λ d own other. only_call (plan_in s) (interface_in s) c d t.whole words fits own
          (ap (map bare) (x.whole_is ∙ sym means) ∙ bare_all_twice (f ∷ rest) ∙ means) other;
    }
