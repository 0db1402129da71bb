-- What putting one line in does to what the journal's lines say: an entry logged, the commit, one entry applied, the superblock cleared.
use Rattle.std.proofs.Common.{◌≡◌, ℕ, zero, suc, ◌+◌, ◌*◌, ◌/◌, ◌%◌, ◌<◌, ◌≤◌, Bool, true, false, eqb, ltb, List, [], ◌∷◌, ◌++◌, length, sym, refl, ap, ◌∙◌, subst, ap₂, inl, inr, take, arith}
use Rattle.plain.specs.Term.{pick, in_bytes}
use Rattle.plain.specs.Read.{number_after, number}
use Rattle.plain.specs.Device.{Line, set_line, line_at, a_line, so_many_of}
use Rattle.std.proofs.lemmas.Bool.{eqb-true, eqb-false, lt-ltb}
use Rattle.plain.proofs.Stops.{length_set, at_same, at_other}
use Rattle.journal.specs.Journal as j
use Rattle.journal.specs.Journal.{value, word, word_line, Write, latest, written, Layout, Logged, entries, logical}

-- the number in a line is the plain definition's
value_number : (n : ℕ) (bs : List ℕ) → value n bs ≡ number_after n bs
unfolding value number_after
value_number n [] = refl
value_number n (b ∷ bs) = value_number (n * 256 + b) bs

pub word_number : (l : Line) → word l ≡ number (take 8 l)
unfolding word
word_number l = value_number 0 (take 8 l)

power : ℕ → ℕ
power zero = 1
power (suc k) = 256 * power k

value_bytes : (k n : ℕ) (bs : List ℕ) → n < power k → value 0 (in_bytes k n bs) ≡ value n bs
unfolding value in_bytes power
value_bytes zero n bs h = ap (λ m. value m bs) (omega arith)
value_bytes (suc k) n bs h =
    value_bytes k (n / 256) (n % 256 ∷ bs) (omega arith) ∙ ap (λ m. value m bs) (omega arith)

pub word_is : (n : ℕ) → n < 18446744073709551616 → word (word_line n) ≡ n
unfolding word word_line in_bytes value power
word_is n h = value_bytes 8 n [] h

byte_small : (n : ℕ) → ltb (n % 256) 256 ≡ true
byte_small n = lt-ltb (n % 256) 256 (omega arith)

pub word_line_line : (n : ℕ) → a_line (word_line n) ≡ true
unfolding word_line in_bytes so_many_of
word_line_line n = simp byte_small

latest_append : (k : ℕ) (us vs : List Write) (l : Line) → latest k (us ++ vs) l ≡ latest k vs (latest k us l)
unfolding latest
latest_append k [] vs l = refl
latest_append k (u ∷ us) vs l = latest_append k us vs (pick (eqb u.to k) u.text l)

-- a line that is written anyhow may have been written before
latest_twice : (k : ℕ) (us : List Write) (w : Write) (vs : List Write) (p l : Line)
    → latest k (us ++ w ∷ vs) (pick (eqb w.to k) p l) ≡ latest k (us ++ w ∷ vs) l
unfolding latest
latest_twice k us w vs p l =
    latest_append k us (w ∷ vs) (pick (eqb w.to k) p l) ∙ ap (λ q. latest k vs q) (go (eqb w.to k)) ∙ sym (latest_append k us (w ∷ vs) l)
  where
    go : (b : Bool) → pick b w.text (latest k us (pick b p l)) ≡ pick b w.text (latest k us l)
    go true = refl
    go false = refl

logged_same : (ls ms : List Line) (i : ℕ) (ws : List Write)
    → ((j : ℕ) → 1 + 2 * i ≤ j → j < 1 + 2 * (i + length ws) → line_at ms j ≡ line_at ls j) → Logged ls i ws → Logged ms i ws
unfolding Logged
logged_same ls ms i [] f h = tt
logged_same ls ms i (w ∷ ws) f h = (
  ap word (f (1 + 2 * i) (omega arith) (omega arith)) ∙ h.0,
  f (2 + 2 * i) (omega arith) (omega arith) ∙ h.1,
  logged_same ls ms (suc i) ws (λ j a b. f j (omega arith) (omega arith)) h.2,
)

logged_more : (ls : List Line) (i : ℕ) (us : List Write) (w : Write) → Logged ls i us
    → word (line_at ls (1 + 2 * (i + length us))) ≡ w.to → line_at ls (2 + 2 * (i + length us)) ≡ w.text → Logged ls i (us ++ w ∷ [])
unfolding Logged
logged_more ls i [] w h a b =
    let e : i + 0 ≡ i = omega arith in
    (subst (λ j. word (line_at ls (1 + 2 * j)) ≡ w.to) e a, subst (λ j. line_at ls (2 + 2 * j) ≡ w.text) e b, tt)
logged_more ls i (u ∷ us) w h a b =
    let e : i + suc (length us) ≡ suc i + length us = omega arith in
    (h.0, h.1, logged_more ls (suc i) us w h.2 (subst (λ j. word (line_at ls (1 + 2 * j)) ≡ w.to) e a) (subst (λ j. line_at ls (2 + 2 * j) ≡ w.text) e b))

pub logged_at : (ls : List Line) (i : ℕ) (us : List Write) (w : Write) (vs : List Write) → Logged ls i (us ++ w ∷ vs)
    → (word (line_at ls (1 + 2 * (i + length us))) ≡ w.to) × (line_at ls (2 + 2 * (i + length us)) ≡ w.text)
unfolding Logged
logged_at ls i [] w vs h =
    let e : i ≡ i + 0 = omega arith in
    (subst (λ j. word (line_at ls (1 + 2 * j)) ≡ w.to) e h.0, subst (λ j. line_at ls (2 + 2 * j) ≡ w.text) e h.1)
logged_at ls i (u ∷ us) w vs h =
    let e : suc i + length us ≡ i + suc (length us) = omega arith in
    let g = logged_at ls (suc i) us w vs h.2 in
    (subst (λ j. word (line_at ls (1 + 2 * j)) ≡ w.to) e g.0, subst (λ j. line_at ls (2 + 2 * j) ≡ w.text) e g.1)

pub entries_are : (ls : List Line) (i : ℕ) (ws : List Write) → Logged ls i ws → entries ls i (length ws) ≡ ws
unfolding Logged entries
entries_are ls i [] h = refl
entries_are ls i (w ∷ ws) h =
    ap₂ (λ v vs. v ∷ vs) (ap₂ (λ t p. let v : Write = record { to = t; text = p } in v) h.0 h.1) (entries_are ls (suc i) ws h.2)

pub entries_logged : (ls : List Line) (i m : ℕ) → Logged ls i (entries ls i m)
unfolding Logged entries
entries_logged ls i zero = tt
entries_logged ls i (suc m) = (refl, refl, entries_logged ls (suc i) m)

pub entries_length : (ls : List Line) (i m : ℕ) → length (entries ls i m) ≡ m
unfolding entries
entries_length ls i zero = refl
entries_length ls i (suc m) = ap suc (entries_length ls (suc i) m)

at_set : (ls : List Line) (t k : ℕ) (p : Line) → t < length ls → line_at (set_line ls t p) k ≡ pick (eqb t k) p (line_at ls k)
at_set ls t k p h = go (eqb t k) refl
  where
    go : (b : Bool) → eqb t k ≡ b → line_at (set_line ls t p) k ≡ pick b p (line_at ls k)
    go true e = subst (λ j. line_at (set_line ls t p) j ≡ p) (eqb-true t k e) (at_same ls t p h)
    go false e = at_other ls t k p (λ f. eqb-false t k e (sym f))

module _ (Y : Layout) where
  abbrev first : ℕ
  first = j.first Y

  abbrev Good : List Write → Type 0
  Good ws = j.Good Y ws

  abbrev Sound : List Line → Type 0
  Sound ls = j.Sound Y ls

  abbrev Says : (ℕ → Line) → (ℕ → Line) → Type 0
  Says f D = j.Says Y f D

  abbrev Marks : (ℕ → Line) → List Write → List Line → Type 0
  Marks D ws ls = j.Marks Y D ws ls

  abbrev Survives : (ℕ → Line) → List Line → Type 0
  Survives D ls = j.Survives Y D ls

  abbrev Ready : (ℕ → Line) → List Write → List Line → Type 0
  Ready D ws ls = j.Ready Y D ws ls

  abbrev Committed : (ℕ → Line) → List Write → List Write → List Line → Type 0
  Committed D ws vs ls = j.Committed Y D ws vs ls

  abbrev Free : ℕ → ℕ → Type 0
  Free m k = j.Free Y m k

  abbrev Half : (ℕ → Line) → List Write → ℕ → List Line → Type 0
  Half D us t ls = j.Half Y D us t ls

  pub good_at : (us : List Write) (w : Write) (vs : List Write) → Good (us ++ w ∷ vs) → (first ≤ w.to) × (w.to < Y.last) × (a_line w.text ≡ true)
  unfolding j.Good
  good_at [] w vs g = (g.0, g.1, g.2)
  good_at (u ∷ us) w vs g = good_at us w vs g.3

  pub idle_survives : (D : ℕ → Line) (ls : List Line) → Marks D [] ls → Survives D ls
  unfolding j.Good
  idle_survives D ls m = record { committed = []; few = omega arith; good = tt; marks = m }

  sound_set : (ls : List Line) (k : ℕ) (p : Line) → Sound ls → a_line p ≡ true → Sound (set_line ls k p)
  sound_set ls k p s e = record { size = length_set ls k p ∙ s.size; lined = lined }
    where
      lined : (j : ℕ) → j < Y.lines → a_line (line_at (set_line ls k p) j) ≡ true
      lined j h = go (eqb j k) refl
        where
          go : (b : Bool) → eqb j k ≡ b → a_line (line_at (set_line ls k p) j) ≡ true
          go true f =
              let g = eqb-true j k f in
              let i : k < length ls = omega (arith, s.size) in
              subst (λ q. a_line q ≡ true) (sym (subst (λ x. line_at (set_line ls k p) x ≡ p) (sym g) (at_same ls k p i))) e
          go false f = subst (λ q. a_line q ≡ true) (sym (at_other ls k j p (eqb-false j k f))) (s.lined j h)

  -- in one function of the lines: what survives is what they say
  pub survives_says : (D : ℕ → Line) (ls : List Line) → Survives D ls → Says (logical ls) D
  unfolding logical
  survives_says D ls s k a b =
      ap (λ ws. latest k ws (line_at ls k)) (ap (λ m. entries ls 0 m) s.marks.head ∙ entries_are ls 0 s.committed s.marks.logged) ∙ s.marks.says k a b

  pub says_survives : (D : ℕ → Line) (ls : List Line) → Sound ls → word (line_at ls 0) ≤ Y.most → Good (entries ls 0 (word (line_at ls 0))) → Says (logical ls) D → Survives D ls
  unfolding logical
  says_survives D ls s few g h =
      let n = entries_length ls 0 (word (line_at ls 0)) in
      record {
        committed = entries ls 0 (word (line_at ls 0));
        few = omega arith;
        good = g;
        marks = record { sound = s; head = sym n; logged = entries_logged ls 0 (word (line_at ls 0)); says = h };
      }

  pub marks_free : (D : ℕ → Line) (ws : List Write) (ls : List Line) (k : ℕ) (p : Line) → length ws ≤ Y.most → Free (length ws) k → a_line p ≡ true
      → Marks D ws ls → Marks D ws (set_line ls k p)
  marks_free D ws ls k p few f e m = record {
    sound = sound_set ls k p m.sound e;
    head = ap word (at_other ls k 0 p (λ h. absurd (omega arith))) ∙ m.head;
    logged = logged_same ls (set_line ls k p) 0 ws (λ j a b. at_other ls k j p (λ h. absurd (omega arith))) m.logged;
    says = λ j a b. ap (λ q. latest j ws q) (at_other ls k j p (λ h. absurd (omega arith))) ∙ m.says j a b;
  }

  pub ready_free : (D : ℕ → Line) (us : List Write) (ls : List Line) (k : ℕ) (p : Line) → length us ≤ Y.most → Free (length us) k → a_line p ≡ true
      → Ready D us ls → Ready D us (set_line ls k p)
  ready_free D us ls k p few f e r = (
    marks_free D [] ls k p (omega arith) (omega arith, f.1) e r.0,
    logged_same ls (set_line ls k p) 0 us (λ j a b. at_other ls k j p (λ h. absurd (omega arith))) r.1,
  )

  pub committed_free : (D : ℕ → Line) (ws vs : List Write) (ls : List Line) (k : ℕ) (p : Line) → length ws ≤ Y.most → Free (length ws) k → a_line p ≡ true
      → Committed D ws vs ls → Committed D ws vs (set_line ls k p)
  committed_free D ws vs ls k p few f e h =
      (marks_free D ws ls k p few f e h.0, λ j a b. ap (λ q. latest j vs q) (at_other ls k j p (λ x. absurd (omega arith))) ∙ h.1 j a b)

  -- only the durable lines of D count
  pub marks_as : (D D₁ : ℕ → Line) (ws : List Write) (ls : List Line) → Says D D₁ → Marks D ws ls → Marks D₁ ws ls
  marks_as D D₁ ws ls f m = record { sound = m.sound; head = m.head; logged = m.logged; says = λ k a b. m.says k a b ∙ f k a b }

  pub survives_as : (D D₁ : ℕ → Line) (ls : List Line) → Says D D₁ → Survives D ls → Survives D₁ ls
  survives_as D D₁ ls f s = record { committed = s.committed; few = s.few; good = s.good; marks = marks_as D D₁ s.committed ls f s.marks }

  pub survives_free : (D : ℕ → Line) (ls : List Line) (k : ℕ) (p : Line) → Y.last ≤ k → a_line p ≡ true → Survives D ls → Survives D (set_line ls k p)
  survives_free D ls k p h e s =
      let few = s.few in let room = Y.room in
      record { committed = s.committed; few = s.few; good = s.good; marks = marks_free D s.committed ls k p s.few (omega arith, inr h) e s.marks }

  pub half_set : (D : ℕ → Line) (us : List Write) (t : ℕ) (ls : List Line) → length us < Y.most → t < Y.lines
      → Ready D us ls → Half D us t (set_line ls (1 + 2 * length us) (word_line t))
  half_set D us t ls few lt r =
      let room = Y.room in let inside = Y.inside in let small = Y.small in
      let size = r.0.sound.size in (
        (
          marks_free D [] ls (1 + 2 * length us) (word_line t) (omega arith) (omega arith, inl (omega arith)) (word_line_line t) r.0,
          logged_same ls (set_line ls (1 + 2 * length us) (word_line t)) 0 us (λ j a b. at_other ls (1 + 2 * length us) j (word_line t) (λ h. absurd (omega arith))) r.1,
        ),
        ap word (at_same ls (1 + 2 * length us) (word_line t) (omega arith)) ∙ word_is t (omega arith),
      )

  pub ready_set : (D : ℕ → Line) (us : List Write) (w : Write) (ls : List Line) → length us < Y.most → a_line w.text ≡ true
      → Half D us w.to ls → Ready D (us ++ w ∷ []) (set_line ls (2 + 2 * length us) w.text)
  ready_set D us w ls few e h =
      let room = Y.room in let inside = Y.inside in
      let size = h.0.0.sound.size in
      let ms : List Line = set_line ls (2 + 2 * length us) w.text in
      let z : length us ≡ 0 + length us = omega arith in (
        marks_free D [] ls (2 + 2 * length us) w.text (omega arith) (omega arith, inl (omega arith)) e h.0.0,
        logged_more ms 0 us w
            (logged_same ls ms 0 us (λ j a b. at_other ls (2 + 2 * length us) j w.text (λ h. absurd (omega arith))) h.0.1)
            (subst (λ j. word (line_at ms (1 + 2 * j)) ≡ w.to) z (ap word (at_other ls (2 + 2 * length us) (1 + 2 * length us) w.text (λ h. absurd (omega arith))) ∙ h.1))
            (subst (λ j. line_at ms (2 + 2 * j) ≡ w.text) z (at_same ls (2 + 2 * length us) w.text (omega arith))),
      )

  -- 2. the writes are committed
  pub committed_set : (D : ℕ → Line) (ws : List Write) (ls : List Line) → length ws ≤ Y.most
      → Ready D ws ls → Committed (written D ws) ws ws (set_line ls 0 (word_line (length ws)))
  unfolding latest
  committed_set D ws ls few r = (
    record {
      sound = sound_set ls 0 (word_line (length ws)) r.0.sound (word_line_line (length ws));
      head = ap word (at_same ls 0 (word_line (length ws)) (let room = Y.room in let inside = Y.inside in let size = r.0.sound.size in omega arith))
          ∙ word_is (length ws) (let room = Y.room in let inside = Y.inside in let small = Y.small in omega arith);
      logged = logged_same ls (set_line ls 0 (word_line (length ws))) 0 ws (λ j a b. at_other ls 0 j (word_line (length ws)) (λ h. absurd (omega arith))) r.1;
      says = says;
    },
    says,
  )
    where
      says : Says (written (line_at (set_line ls 0 (word_line (length ws)))) ws) (written D ws)
      says k a b = ap (λ q. latest k ws q) (at_other ls 0 k (word_line (length ws)) (λ h. absurd (omega arith)) ∙ r.0.says k a b)

  -- 3. one of them is applied
  pub applied_set : (D : ℕ → Line) (us : List Write) (w : Write) (vs : List Write) (ls : List Line)
      → length (us ++ w ∷ vs) ≤ Y.most → Good (us ++ w ∷ vs)
      → Committed D (us ++ w ∷ vs) (w ∷ vs) ls → Committed D (us ++ w ∷ vs) vs (set_line ls w.to w.text)
  unfolding latest
  applied_set D us w vs ls few good h = (
    record {
      sound = sound_set ls w.to w.text h.0.sound g.2;
      head = ap word (at_other ls w.to 0 w.text (λ e. absurd (omega (arith, g.0)))) ∙ h.0.head;
      logged = logged_same ls (set_line ls w.to w.text) 0 (us ++ w ∷ vs) (λ j a b. at_other ls w.to j w.text (λ e. absurd (omega (arith, g.0)))) h.0.logged;
      says = λ k a b. ap (λ q. latest k (us ++ w ∷ vs) q) (here k) ∙ latest_twice k us w vs w.text (line_at ls k) ∙ h.0.says k a b;
    },
    λ k a b. ap (λ q. latest k vs q) (here k) ∙ h.1 k a b,
  )
    where
      g : (first ≤ w.to) × (w.to < Y.last) × (a_line w.text ≡ true)
      g = good_at us w vs good

      here : (k : ℕ) → line_at (set_line ls w.to w.text) k ≡ pick (eqb w.to k) w.text (line_at ls k)
      here k = at_set ls w.to k w.text (let inside = Y.inside in let size = h.0.sound.size in omega (arith, g.1))

  -- 4. all are applied
  pub clear_set : (D : ℕ → Line) (ws : List Write) (ls : List Line) → Committed D ws [] ls → Marks D [] (set_line ls 0 (word_line 0))
  unfolding latest Logged
  clear_set D ws ls h = record {
    sound = sound_set ls 0 (word_line 0) h.0.sound (word_line_line 0);
    head = ap word (at_same ls 0 (word_line 0) (let room = Y.room in let inside = Y.inside in let size = h.0.sound.size in omega arith)) ∙ word_is 0 (omega arith);
    logged = tt;
    says = λ k a b. at_other ls 0 k (word_line 0) (λ e. absurd (omega arith)) ∙ h.1 k a b;
  }
