-- What holds between reading and spelling: what is read is spelled so, and what is spelled so is read.
use Rattle.std.proofs.Common.{◌≡◌, ℕ, zero, suc, ◌<◌, Bool, true, false, List, [], ◌∷◌, ◌++◌, length, get_or, Result, Ok, Err, refl, sym, ap, subst, ◌∙◌, append_assoc}
use Rattle.std.specs.List.{flat_map}
use Rattle.std.proofs.lemmas.List.{append-nil}
use Rattle.fl_image.specs.declared.fault.BadImage.{BadImage}
use Rattle.fl_image.specs.Reading.{◌>>=◌, Read, in_range, more_at, many_at}

abbrev pub IsBytes : List ℕ → Type 0
IsBytes bytes = (i : ℕ) → get_or bytes i 0 < 256

-- the value of a step that did not fail
pub bind_ok : {A B : Type 0} (r : Read A) (f : A × List ℕ → Read B) (y : B × List ℕ) → (r >>= f) ≡ Ok y → (x : A × List ℕ) × (r ≡ Ok x) × (f x ≡ Ok y)
bind_ok (Ok x) f y e = (x, refl, e)
bind_ok (Err d) f y e = absurd cc

abbrev done : {A : Type 0} → A → Result A BadImage
done x = Ok x

pub ok_is : {A : Type 0} (x y : A) → done x ≡ done y → x ≡ y
ok_is x y e = cc

pub first_is : {A : Type 0} (x : A) (rest : List ℕ) (y : A) (rest2 : List ℕ) → done {A = A × List ℕ} (x, rest) ≡ done {A = A × List ℕ} (y, rest2) → x ≡ y
first_is {A = A} x rest y rest2 e = ap (λ (p : A × List ℕ). p.0) (ok_is (x, rest) (y, rest2) e)

pub rest_is : {A : Type 0} (x : A) (rest : List ℕ) (y : A) (rest2 : List ℕ) → done {A = A × List ℕ} (x, rest) ≡ done {A = A × List ℕ} (y, rest2) → rest ≡ rest2
rest_is {A = A} x rest y rest2 e = ap (λ (p : A × List ℕ). p.1) (ok_is (x, rest) (y, rest2) e)

-- what a reader took from the front
pub record Takes (bytes image rest : List ℕ) : Type 0 where
  pub parts : bytes ≡ image ++ rest
  pub rest_fits : IsBytes rest

pub takes_then : (a x b y c : List ℕ) → Takes a x b → Takes b y c → Takes a (x ++ y) c
takes_then a x b y c p q = record { parts = p.parts ∙ ap (λ (t : List ℕ). x ++ t) q.parts ∙ sym (append_assoc x y c); rest_fits = q.rest_fits }

-- what is read is a fitting thing and is spelled so; a fitting thing that is spelled so is read
pub record Law {A : Type 0} (read : List ℕ → Read A) (image : A → List ℕ) (fits : A → Type 0) : Type 0 where
  pub takes : (bytes : List ℕ) (x : A) (rest : List ℕ) → IsBytes bytes → read bytes ≡ Ok (x, rest) → Takes bytes (image x) rest × fits x
  pub again : (x : A) (rest : List ℕ) → fits x → read (image x ++ rest) ≡ Ok (x, rest)

-- two things that stand for one
pub record Parts {A B : Type 0} (image1 : A → List ℕ) (fits1 : A → Type 0) (image2 : A → B → List ℕ) (fits2 : A → B → Type 0) (image : B → List ℕ) (fits : B → Type 0) : Type 0 where
  pub joined : (a : A) (b : B) → fits1 a → fits2 a b → (image b ≡ image1 a ++ image2 a b) × fits b
  pub cut : (b : B) → fits b → (a : A) × fits1 a × fits2 a b

-- one thing, and then another that tells the first
pub follow : {A B : Type 0} (read1 : List ℕ → Read A) (image1 : A → List ℕ) (fits1 : A → Type 0) (read2 : A → List ℕ → Read B) (image2 : A → B → List ℕ) (fits2 : A → B → Type 0) (image : B → List ℕ) (fits : B → Type 0)
    → Law read1 image1 fits1 → ((a : A) → fits1 a → Law (read2 a) (image2 a) (fits2 a)) → Parts image1 fits1 image2 fits2 image fits
    → Law (λ bytes. read1 bytes >>= λ p. read2 p.0 p.1) image fits
follow {A = A} {B = B} read1 image1 fits1 read2 image2 fits2 image fits law1 law2 parts = record {
  takes = λ bytes x rest h e.
      let s = bind_ok (read1 bytes) (λ p. read2 p.0 p.1) (x, rest) e in
      let one = law1.takes bytes s.0.0 s.0.1 h s.1 in
      let two = (law2 s.0.0 one.1).takes s.0.1 x rest one.0.rest_fits s.2 in
      let j = parts.joined s.0.0 x one.1 two.1 in
      (subst (λ (t : List ℕ). Takes bytes t rest) (sym j.0) (takes_then bytes (image1 s.0.0) s.0.1 (image2 s.0.0 x) rest one.0 two.0), j.1);
  again = λ x rest h.
      let c = parts.cut x h in
      let j = parts.joined c.0 x c.1 c.2 in
      let split : image x ++ rest ≡ image1 c.0 ++ (image2 c.0 x ++ rest) = ap (λ (t : List ℕ). t ++ rest) j.0 ∙ append_assoc (image1 c.0) (image2 c.0 x) rest in
      let first : (read1 (image x ++ rest) >>= λ p. read2 p.0 p.1) ≡ read2 c.0 (image2 c.0 x ++ rest) =
      ap (λ (t : List ℕ). read1 t >>= λ p. read2 p.0 p.1) split ∙ ap (λ (r : Read A). r >>= λ p. read2 p.0 p.1) (law1.again c.0 (image2 c.0 x ++ rest) c.1) in
      first ∙ (law2 c.0 c.1).again x rest c.2;
}

-- the same thing under another name
pub record Same {A B : Type 0} (image1 : A → List ℕ) (fits1 : A → Type 0) (make : A → B) (image : B → List ℕ) (fits : B → Type 0) : Type 0 where
  pub made : (a : A) → fits1 a → (image (make a) ≡ image1 a) × fits (make a)
  pub cut : (b : B) → fits b → (a : A) × (make a ≡ b) × fits1 a

pub mapped : {A B : Type 0} (read1 : List ℕ → Read A) (image1 : A → List ℕ) (fits1 : A → Type 0) (make : A → B) (image : B → List ℕ) (fits : B → Type 0)
    → Law read1 image1 fits1 → Same image1 fits1 make image fits → Law (λ bytes. read1 bytes >>= λ p. Ok (make p.0, p.1)) image fits
mapped {A = A} {B = B} read1 image1 fits1 make image fits law1 same = record {
  takes = λ bytes x rest h e.
      let s = bind_ok (read1 bytes) (λ p. Ok (make p.0, p.1)) (x, rest) e in
      let one = law1.takes bytes s.0.0 s.0.1 h s.1 in
      let m = same.made s.0.0 one.1 in
      let it : make s.0.0 ≡ x = first_is (make s.0.0) s.0.1 x rest s.2 in
      let behind : s.0.1 ≡ rest = rest_is (make s.0.0) s.0.1 x rest s.2 in
      (subst (λ (t : List ℕ). Takes bytes t rest) (sym m.0 ∙ ap image it) (subst (λ (t : List ℕ). Takes bytes (image1 s.0.0) t) behind one.0), subst fits it m.1);
  again = λ x rest h.
      let c = same.cut x h in
      let m = same.made c.0 c.2 in
      let e : image x ≡ image1 c.0 = ap image (sym c.1) ∙ m.0 in
      ap (λ (t : List ℕ). read1 (t ++ rest) >>= λ p. Ok (make p.0, p.1)) e
      ∙ ap (λ (r : Read A). r >>= λ p. Ok (make p.0, p.1)) (law1.again c.0 rest c.2)
      ∙ ap (λ (y : B). Ok (y, rest)) c.1;
}

pub range_ok : {A : Type 0} (b : Bool) (p q : A × List ℕ) → in_range b p ≡ Ok q → (b ≡ true) × (p ≡ q)
range_ok true p q e = (refl, cc)
range_ok false p q e = absurd cc

pub ranged : {A : Type 0} (read : List ℕ → Read A) (image : A → List ℕ) (fits : A → Type 0) (test : A → Bool)
    → Law read image fits → Law (λ bytes. read bytes >>= λ p. in_range (test p.0) p) image (λ a. fits a × (test a ≡ true))
ranged {A = A} read image fits test law = record {
  takes = λ bytes x rest h e.
      let s = bind_ok (read bytes) (λ p. in_range (test p.0) p) (x, rest) e in
      let g = range_ok (test s.0.0) s.0 (x, rest) s.2 in
      let one = law.takes bytes s.0.0 s.0.1 h s.1 in
      subst (λ (q : A × List ℕ). Takes bytes (image q.0) q.1 × (fits q.0 × (test q.0 ≡ true))) g.1 (one.0, (one.1, g.0));
  again = λ x rest h.
      ap (λ (r : Read A). r >>= λ p. in_range (test p.0) p) (law.again x rest h.0)
      ∙ ap (λ (b : Bool). in_range b (x, rest)) h.1;
}

-- ---- many of one kind

-- each fits after those before it
abbrev pub AllAfter : {A : Type 0} → (List A → A → Type 0) → List A → List A → Type 0
AllAfter fits before [] = Unit {0}
AllAfter fits before (x ∷ xs) = fits before x × AllAfter fits (before ++ x ∷ []) xs

pub record More {A : Type 0} (fits : List A → A → Type 0) (image : A → List ℕ) (n : ℕ) (before : List A) (bytes : List ℕ) (all : List A) (rest : List ℕ) : Type 0 where
  pub more : List A
  pub all_are : all ≡ before ++ more
  pub count : length more ≡ n
  pub fit : AllAfter fits before more
  pub takes : Takes bytes (flat_map image more) rest

pub more_takes : {A : Type 0} (read : List A → List ℕ → Read A) (image : A → List ℕ) (fits : List A → A → Type 0) (law : (before : List A) → Law (read before) image (fits before))
    (n : ℕ) (before : List A) (bytes : List ℕ) (all : List A) (rest : List ℕ) → IsBytes bytes → more_at read n before bytes ≡ Ok (all, rest) → More fits image n before bytes all rest
more_takes {A = A} read image fits law zero before bytes all rest h e =
    record {
      more = [];
      all_are = sym (first_is before bytes all rest e) ∙ sym (append-nil before);
      count = refl;
      fit = tt;
      takes = subst (λ (t : List ℕ). Takes bytes [] t) (rest_is before bytes all rest e) (record { parts = refl; rest_fits = h });
    }
more_takes {A = A} read image fits law (suc n) before bytes all rest h e =
    let s = bind_ok (read before bytes) (λ x. more_at read n (before ++ x.0 ∷ []) x.1) (all, rest) e in
    let one = (law before).takes bytes s.0.0 s.0.1 h s.1 in
    let m = more_takes read image fits law n (before ++ s.0.0 ∷ []) s.0.1 all rest one.0.rest_fits s.2 in
    record {
      more = s.0.0 ∷ m.more;
      all_are = m.all_are ∙ append_assoc before (s.0.0 ∷ []) m.more;
      count = ap suc m.count;
      fit = (one.1, m.fit);
      takes = takes_then bytes (image s.0.0) s.0.1 (flat_map image m.more) rest one.0 m.takes;
    }

pub more_again : {A : Type 0} (read : List A → List ℕ → Read A) (image : A → List ℕ) (fits : List A → A → Type 0) (law : (before : List A) → Law (read before) image (fits before))
    (before xs : List A) (rest : List ℕ) → AllAfter fits before xs → more_at read (length xs) before (flat_map image xs ++ rest) ≡ Ok (before ++ xs, rest)
more_again {A = A} read image fits law before [] rest h = ap (λ (t : List A). Ok (t, rest)) (sym (append-nil before))
more_again {A = A} read image fits law before (x ∷ xs) rest h =
    let split : (image x ++ flat_map image xs) ++ rest ≡ image x ++ (flat_map image xs ++ rest) = append_assoc (image x) (flat_map image xs) rest in
    ap (λ (t : List ℕ). read before t >>= λ y. more_at read (length xs) (before ++ y.0 ∷ []) y.1) split
    ∙ ap (λ (r : Read A). r >>= λ y. more_at read (length xs) (before ++ y.0 ∷ []) y.1) ((law before).again x (flat_map image xs ++ rest) h.0)
    ∙ more_again read image fits law (before ++ x ∷ []) xs rest h.1
    ∙ ap (λ (t : List A). Ok (t, rest)) (append_assoc before (x ∷ []) xs)

-- a list of so many
abbrev pub IsList : {A : Type 0} → (A → Type 0) → ℕ → List A → Type 0
IsList fits n xs = (length xs ≡ n) × AllAfter (λ before. fits) [] xs

pub many : {A : Type 0} (read : List ℕ → Read A) (image : A → List ℕ) (fits : A → Type 0) → Law read image fits → (n : ℕ) → Law (many_at read n) (flat_map image) (IsList fits n)
many {A = A} read image fits law n = record {
  takes = λ bytes x rest h e.
      let m = more_takes (λ before. read) image (λ before. fits) (λ before. law) n [] bytes x rest h e in
      (subst (λ (t : List A). Takes bytes (flat_map image t) rest) (sym m.all_are) m.takes, subst (IsList fits n) (sym m.all_are) (m.count, m.fit));
  again = λ x rest h. subst (λ k. more_at (λ before. read) k [] (flat_map image x ++ rest) ≡ Ok (x, rest)) h.0 (more_again (λ before. read) image (λ before. fits) (λ before. law) [] x rest h.1);
}

-- the same for things that are read after those before them
pub more : {A : Type 0} (read : List A → List ℕ → Read A) (image : A → List ℕ) (fits : List A → A → Type 0) → ((before : List A) → Law (read before) image (fits before)) → (n : ℕ)
    → Law (more_at read n []) (flat_map image) (λ xs. (length xs ≡ n) × AllAfter fits [] xs)
more {A = A} read image fits law n = record {
  takes = λ bytes x rest h e.
      let m = more_takes read image fits law n [] bytes x rest h e in
      (subst (λ (t : List A). Takes bytes (flat_map image t) rest) (sym m.all_are) m.takes, subst (λ (t : List A). (length t ≡ n) × AllAfter fits [] t) (sym m.all_are) (m.count, m.fit));
  again = λ x rest h. subst (λ k. more_at read k [] (flat_map image x ++ rest) ≡ Ok (x, rest)) h.0 (more_again read image fits law [] x rest h.1);
}
