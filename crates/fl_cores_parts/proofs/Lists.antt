-- Ends' progress and ends, binding by binding, and links, one by one.
use Rattle.std.proofs.Common.{◌≡◌, sym, ap, ◌∙◌, refl, ℕ, zero, suc, ◌+◌, ◌<◌, ◌≤◌, List, [], ◌∷◌, ◌++◌, map, length, drop, get_or, arith}
use Rattle.std.specs.List.{flat_map, range_with_len}
use Rattle.std.proofs.lemmas.List.{append-nil, append_assoc, drop_all}
use Rattle.std.proofs.lemmas.List.Concat.{flat_map-append, flat_map-cons}
use Rattle.std.proofs.lemmas.List.FromFn.{map-range_with_len_more}
use Rattle.fl_core_run.specs.declared.opening_status.OpeningStatus.{OpeningStatus}
use Rattle.fl_core_run.specs.EndProgress.{TheEndProgress}
use Rattle.fl_base.specs.declared.identity.EndId.{EndId}
use Rattle.fl_base.specs.declared.identity.LinkId.{LinkId}
use Rattle.fl_base.specs.Numbered.{link_id}
use Rattle.fl_cores_jobs.specs.declared.end_work.BindingCores.{BindingCores}
use Rattle.fl_cores_jobs.specs.State.{TheJoinedJobs}
use Rattle.fl_core.specs.View.{client_of, server_of}
use Rattle.fl_cores_parts.specs.Begins.{ends_at, ends_from, words_of, progress_for, two_progresses, links_below}

same_numbers : (ks : List ℕ) → map (λ (k : ℕ). k) ks ≡ ks
same_numbers [] = refl
same_numbers (k ∷ ks) = ap (λ (ms : List ℕ). k ∷ ms) (same_numbers ks)

range_more : (n : ℕ) → range_with_len 0 (n + 1) ≡ range_with_len 0 n ++ n ∷ []
range_more n =
    sym (same_numbers (range_with_len 0 (n + 1))) ∙ map-range_with_len_more (λ (k : ℕ). k) 0 n n (omega arith)
    ∙ ap (λ (ks : List ℕ). ks ++ n ∷ []) (same_numbers (range_with_len 0 n))

-- the ends' progress of one binding more
pub progresses_more : (two : ℕ → List TheEndProgress) (n : ℕ) → flat_map two (range_with_len 0 (n + 1)) ≡ flat_map two (range_with_len 0 n) ++ two n
progresses_more two n =
    ap (flat_map two) (range_more n)
    ∙ flat_map-append two (range_with_len 0 n) (n ∷ [])
    ∙ ap (λ (ds : List TheEndProgress). flat_map two (range_with_len 0 n) ++ ds) (flat_map-cons two n [] ∙ append-nil (two n))

-- the ends of the bindings from one on are its own and those of the rest
ends_behind : (core n : ℕ) (bindings : List BindingCores) (k : ℕ) (b : BindingCores) → k < length bindings → b ≡ get_or bindings k b
    → ends_from core n (drop k bindings) ≡ ends_at core n b ++ ends_from core (suc n) (drop (suc k) bindings)
ends_behind core n [] k b h is = absurd (omega (arith, h))
ends_behind core n (x ∷ bindings) zero b h is = ap (λ (y : BindingCores). ends_at core n y ++ ends_from core (suc n) bindings) (sym is)
ends_behind core n (x ∷ bindings) (suc k) b h is = ends_behind core n bindings k b (omega (arith, h)) is

pub ends_more : (core : ℕ) (bindings : List BindingCores) (k : ℕ) (b : BindingCores) → k < length bindings → b ≡ get_or bindings k b
    → ends_from core k (drop k bindings) ≡ ends_at core k b ++ ends_from core (suc k) (drop (suc k) bindings)
ends_more core bindings k b h is = ends_behind core k bindings k b h is

-- the ends so far are all, at the end
pub ends_done : (core : ℕ) (bindings : List BindingCores) (k : ℕ) (ends all : List EndId) → length bindings ≤ k → ends ++ ends_from core k (drop k bindings) ≡ all
    → ends ≡ all
ends_done core bindings k ends all past so =
    sym (append-nil ends) ∙ ap (λ (bs : List BindingCores). ends ++ ends_from core k bs) (sym (drop_all k bindings past)) ∙ so

-- likewise of the words
pub words_done : (core : ℕ) (bindings : List BindingCores) (k : ℕ) (words all : List OpeningStatus) → length bindings ≤ k → words ++ words_of core (drop k bindings) ≡ all → words ≡ all
words_done core bindings k words all past so =
    sym (append-nil words) ∙ ap (λ (bs : List BindingCores). words ++ words_of core bs) (sym (drop_all k bindings past)) ∙ so

pub two_more : (core : ℕ) (j : TheJoinedJobs) (n : ℕ) (ds : List TheEndProgress) (a b : TheEndProgress) → ds ≡ flat_map (two_progresses core j) (range_with_len 0 n)
    → a ≡ progress_for core j (client_of n) → b ≡ progress_for core j (server_of n)
    → (ds ++ a ∷ []) ++ b ∷ [] ≡ flat_map (two_progresses core j) (range_with_len 0 (n + 1))
two_more core j n ds a b so first second =
    append_assoc ds (a ∷ []) (b ∷ []) ∙ ap (λ (xs : List TheEndProgress). xs ++ a ∷ b ∷ []) so
    ∙ ap (λ (x : TheEndProgress). flat_map (two_progresses core j) (range_with_len 0 n) ++ x ∷ b ∷ []) first
    ∙ ap (λ (x : TheEndProgress). flat_map (two_progresses core j) (range_with_len 0 n) ++ progress_for core j (client_of n) ∷ x ∷ []) second
    ∙ sym (progresses_more (two_progresses core j) n)

-- the links so far, and the next
pub links_more : (n : ℕ) (links : List LinkId) → links ≡ links_below n → links ++ link_id n ∷ [] ≡ links_below (n + 1)
links_more n links so = ap (λ (ls : List LinkId). ls ++ link_id n ∷ []) so ∙ sym (map-range_with_len_more link_id 0 n n (omega arith))

-- the links so far are all, at the end
pub links_done : (link_sides n count : ℕ) (links : List LinkId) → count ≡ link_sides → n ≤ count → count ≤ n → links ≡ links_below n → links ≡ links_below link_sides
links_done link_sides n count links same within past so =
    let all : n ≡ link_sides = omega (arith, same, within, past) in
    so ∙ ap links_below all
