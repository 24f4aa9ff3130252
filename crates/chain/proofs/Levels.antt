-- The search back from a key, level by level: the first level with a trusted root is the key's link count. Assumes nothing.
use Prim.Native.Nat.{ℕ, zero, suc, ◌+◌, ◌-◌, ◌^◌, ◌≤◌, ◌<◌}
use mathlib.Core.{Bool.{Bool, true, false, cond, not, ◌&&◌, ◌||◌, false≢true}, List.Memᴰ, Logic.{◌≢◌, ◌⊎◌, inl, inr}}
use mathlib.Core.Path.{◌≡◌, refl, sym, ap, ap₂, ◌∙◌, subst}
use borrow.Author.Tests.{ne_eqb}
use native.Mathlib.Omega.{arith}
use lib.{Bits.{bit_or, or_zero_l, or_zero_r}, Count.count_trailing_zeros, Dec.{T, eqb, eqb→eq}, ListN.{length, drop}}
use Rattle.records.specs.{Phone.{Trust, no_certificate}, declared.Certificate.Certificate}
use Rattle.bits.specs.{Bits.set_bit, SlotWord.{word, any_of, less_lowest}}
use Rattle.bits.proofs.{BitLaws.or_set, WordLaws.{any_nothing, word_lt, word_none, word_same, word_or, Built, built_none, built_skips, built_takes, built_all}}
use Rattle.rules.specs.{Words.{any, least}, Chains.{trusted_root, link, serves, good, most_links, within, links}}
use Rattle.laws.proofs.{Tests.{tests, or_cases, eq→eqb, neqb→ne, same, eqb_turn}, Lists.{any_out, any_in}, Least.least_small, Loops.{any_rest, any_end}}
use Rattle.std.specs.Prelude.{Option, Some, None}
use Rattle.std.proofs.lemmas.Option.{cond_some, none-some}
use Rattle.chain.specs.SlotWords.{slot, rooted, linked, reach, verifiers, level_of}
use Rattle.chain.proofs.WordsAny.{any_none, any_same, any_or, word_any, Going, goes_to, some_here}

-- a test whether a is m and k the key, of which m is d
pub asked : {b : Bool} (a k key : ℕ) {m d : ℕ} → b ≡ (eqb a m && eqb k key) → m ≡ d → b ≡ (eqb a d && eqb k key)
asked a k key h q = h ∙ ap (λ m. eqb a m && eqb k key) q

none : (b : Bool) → (b && false) ≡ false
none true = refl
none false = refl

-- ---- what is found, a, and what is left, of which b is the first: together they tell w

module _ (b a r w : Bool) (inv : (a || (b || r)) ≡ w) where
  taken : ((a || b) || r) ≡ w
  taken = go a b ∙ inv
    where
      go : (a b : Bool) → ((a || b) || r) ≡ (a || (b || r))
      go true b = refl
      go false b = refl

  -- what is found already need not be looked for again
  known : (b ≡ true → a ≡ true) → (a || r) ≡ w
  known h = go b a h ∙ inv
    where
      go : (b a : Bool) → (b ≡ true → a ≡ true) → (a || r) ≡ (a || (b || r))
      go true a h = ap (λ x. x || r) (h refl) ∙ ap (λ x. x || true) (sym (h refl))
      go false a h = refl

ended : (a r w : Bool) → (a || r) ≡ w → r ≡ false → a ≡ w
ended true r w inv h = inv
ended false r w inv h = sym h ∙ inv

-- ---- the least number that passes

pub least_none : (f : ℕ → Bool) (n : ℕ) → n ≡ 0 → 0 ≡ least n f
unfolding least
least_none f n z = ap (λ k. least k f) (sym z)

least_one : (f : ℕ → Bool) (n : ℕ) → n ≢ 0 → f 1 ≡ true → 1 ≡ least n f
unfolding least
least_one f zero nz h = absurd (nz refl)
least_one f (suc zero) nz h = rw h
least_one f (suc (suc n)) nz h = rw (sym (least_one f (suc n) (λ z. omega arith) h))

-- a count of the links above the first, and one more, is a byte
pub climb_small : (f : ℕ → Bool) (n m : ℕ) → m ≡ least (n - 1) f → n ≢ 0 → n < 256 → m < 255
climb_small f n m e nz h = let s = least_small f (n - 1) in omega arith

-- what passes one later
least_later : (f g : ℕ → Bool) → ((k : ℕ) → f (suc k) ≡ g k) → g 0 ≡ false → (n : ℕ) → cond (eqb (least n g) 0) 0 (suc (least n g)) ≡ least (suc n) f
unfolding least
least_later f g h z zero = rw (h 0, z)
least_later f g h z (suc n) = rw (sym (least_later f g h z n), h (suc n)) (go (least n g) (g (suc n)))
  where
    go : (r : ℕ) (b : Bool)
        → cond (eqb (cond (eqb r 0) (cond b (suc n) 0) r) 0) 0 (suc (cond (eqb r 0) (cond b (suc n) 0) r))
        ≡ cond (eqb (cond (eqb r 0) 0 (suc r)) 0) (cond b (suc (suc n)) 0) (cond (eqb r 0) 0 (suc r))
    go zero true = rw (ne_eqb (suc n) 0 (λ z. omega arith))
    go zero false = refl
    go (suc r) b = rw (ne_eqb (suc r) 0 (λ z. omega arith)) (rw (ne_eqb (suc r) 0 (λ z. omega arith), ne_eqb (suc (suc r)) 0 (λ z. omega arith)))

-- ---- what a level tells

module _ (t : Trust) (d : ℕ) (p : ℕ → Bool) (before : ℕ) where
  abbrev has_root : Bool
  has_root = any (rooted t d p) t.certificates

  abbrev level_links : ℕ
  level_links = bit_or before (word (linked t d p) t.certificates)

  abbrev level_if : Bool → Option ℕ
  level_if b = cond b None (Some level_links)

  level_rooted : true ≡ has_root → None ≡ level_of t d p before
  unfolding level_of
  level_rooted h = ap level_if h

  level_rootless : false ≡ has_root → {w : ℕ} → w ≡ level_links → Some w ≡ level_of t d p before
  unfolding level_of
  level_rootless h e = ap Some e ∙ ap level_if h

  module _ {r : Option ℕ} (q : r ≡ level_of t d p before) where
    level_root : r ≡ None → has_root ≡ true
    unfolding level_of
    level_root e = go has_root (sym e ∙ q)
      where
        go : (b : Bool) → None ≡ level_if b → b ≡ true
        go true h = refl
        go false h = absurd (none-some level_links h)

    level_some : {w : ℕ} → r ≡ Some w → (has_root ≡ false) × (w ≡ level_links)
    unfolding level_of
    level_some {w} e = go has_root (sym e ∙ q)
      where
        go : (b : Bool) → Some w ≡ level_if b → (b ≡ false) × (w ≡ level_links)
        go true h = absurd (none-some w (sym h))
        go false h = (refl, (cond_some true w level_links h).1)

-- a level by itself is a word
pub level_fits : (t : Trust) (d : ℕ) (p : ℕ → Bool) {r : Option ℕ} → r ≡ level_of t d p 0 → {w : ℕ} → r ≡ Some w → w < 2 ^ length t.certificates
level_fits t d p q e =
    subst (λ k. k < 2 ^ length t.certificates) (sym ((level_some t d p 0 q e).1 ∙ or_zero_l (word (linked t d p) t.certificates)))
    (word_lt (linked t d p) t.certificates)

-- ---- a sweep for one key, and the slots that are left

module _ (t : Trust) (d k before : ℕ) where
  abbrev one_key : ℕ → Bool
  one_key v = eqb v k

  abbrev roots : ℕ → Bool
  roots i = any (rooted t d one_key) (drop i t.certificates)

  -- no slot before i is a trusted root of the key, and their links are in the word, beside those before
  pub record Sweeping (w i : ℕ) : Type 0 where
    pub own : ℕ
    pub joined : w ≡ bit_or before own
    pub rootless : roots i ≡ roots 0
    pub built : Built (linked t d one_key) t.certificates own i

  pub sweep_begin : Sweeping before 0
  sweep_begin = record { own = 0; joined = sym (or_zero_r before); rootless = refl; built = built_none _ _ }

  pub sweep_end : {w i : ℕ} → Sweeping w i → length t.certificates ≤ i → Some w ≡ level_of t d one_key before
  sweep_end {w} {i} s h =
      level_rootless t d one_key before (sym (any_end no_certificate t.certificates i (rooted t d one_key) h) ∙ s.rootless)
      (s.joined ∙ ap (bit_or before) (built_all _ _ s.built h))

  module _ {w i : ℕ} (s : Sweeping w i) (h : i < length t.certificates) {c : Certificate} (q : c ≡ slot t i) {b : Bool}
      (e : b ≡ (eqb c.domain d && eqb c.key k)) where
    -- slot i, by what was read of it
    root_here : (r : Bool) → r ≡ trusted_root t.seen c → rooted t d one_key (slot t i) ≡ (b && r)
    unfolding rooted
    root_here r f = ap (rooted t d one_key) (sym q) ∙ ap₂ (λ x y. x && y) (sym e) (sym f)

    link_here : (l : Bool) → l ≡ link t.seen c → linked t d one_key (slot t i) ≡ (b && l)
    unfolding linked
    link_here l f = ap (linked t d one_key) (sym q) ∙ ap₂ (λ x y. x && y) (sym e) (sym f)

    roots_left : (r v : Bool) → r ≡ trusted_root t.seen c → (b && r) ≡ v → (v || roots (i + 1)) ≡ roots 0
    roots_left r v f z =
        ap (λ x. x || roots (i + 1)) (sym (root_here r f ∙ z))
        ∙ sym (any_rest no_certificate t.certificates i (rooted t d one_key) h)
        ∙ s.rootless

    skips : roots (i + 1) ≡ roots 0 → linked t d one_key (slot t i) ≡ false → Sweeping w (i + 1)
    skips n z = record { own = s.own; joined = s.joined; rootless = n; built = built_skips _ _ no_certificate s.built h z }

    pub sweep_other : b ≡ false → Sweeping w (i + 1)
    sweep_other z =
        skips (roots_left _ false refl (ap (λ x. x && trusted_root t.seen c) z)) (link_here _ refl ∙ ap (λ x. x && link t.seen c) z)

    module _ (y : b ≡ true) {r : Bool} (f : r ≡ trusted_root t.seen c) where
      pub sweep_root : r ≡ true → None ≡ level_of t d one_key before
      sweep_root x = level_rooted t d one_key before (roots_left r true f (ap (λ x. x && r) y ∙ x))

      module _ (n : r ≡ false) {l : Bool} (g : l ≡ link t.seen c) where
        rootless : roots (i + 1) ≡ roots 0
        rootless = roots_left r false f (ap (λ x. x && r) y ∙ n)

        linked_here : linked t d one_key (slot t i) ≡ l
        linked_here = link_here l g ∙ ap (λ x. x && l) y

        pub sweep_unlinked : l ≡ false → Sweeping w (i + 1)
        sweep_unlinked z = skips rootless (linked_here ∙ z)

        pub sweep_link : l ≡ true → {u : ℕ} → u ≡ set_bit w i → Sweeping u (i + 1)
        sweep_link z j =
            record {
              own = set_bit s.own i;
              joined = j ∙ ap (λ x. set_bit x i) s.joined ∙ or_set before s.own i;
              rootless = rootless;
              built = built_takes _ _ no_certificate s.built h (linked_here ∙ z) refl;
            }

-- ---- the next level, from the links of this one

module _ (t : Trust) (d : ℕ) where
  linked_same : (p q : ℕ → Bool) → ((v : ℕ) → p v ≡ q v) → word (linked t d p) t.certificates ≡ word (linked t d q) t.certificates
  unfolding linked
  linked_same p q h = word_same (linked t d p) (linked t d q) (λ c. ap (λ x. eqb c.domain d && x && link t.seen c) (h c.key)) t.certificates

  rooted_same : (p q : ℕ → Bool) → ((v : ℕ) → p v ≡ q v) → any (rooted t d p) t.certificates ≡ any (rooted t d q) t.certificates
  unfolding rooted
  rooted_same p q h = any_same (rooted t d p) (rooted t d q) (λ c. ap (λ x. eqb c.domain d && x && trusted_root t.seen c) (h c.key)) t.certificates

  -- keys of two sorts
  split : (a x y b : Bool) → (a && (x || y) && b) ≡ ((a && x && b) || (a && y && b))
  split true true y true = refl
  split true true true false = refl
  split true true false false = refl
  split true false y b = refl
  split false x y b = refl

  rooted_or : (p q : ℕ → Bool)
      → any (rooted t d (λ v. p v || q v)) t.certificates ≡ (any (rooted t d p) t.certificates || any (rooted t d q) t.certificates)
  unfolding rooted
  rooted_or p q =
      any_same (rooted t d (λ v. p v || q v)) (λ c. rooted t d p c || rooted t d q c)
      (λ c. split (eqb c.domain d) (p c.key) (q c.key) (trusted_root t.seen c)) t.certificates
      ∙ any_or (rooted t d p) (rooted t d q) t.certificates

  linked_or : (p q : ℕ → Bool)
      → bit_or (word (linked t d p) t.certificates) (word (linked t d q) t.certificates) ≡ word (linked t d (λ v. p v || q v)) t.certificates
  unfolding linked
  linked_or p q =
      word_or (linked t d p) (linked t d q) t.certificates
      ∙ word_same (λ c. linked t d p c || linked t d q c) (linked t d (λ v. p v || q v))
      (λ c. sym (split (eqb c.domain d) (p c.key) (q c.key) (link t.seen c))) t.certificates

  rooted_up : (p q : ℕ → Bool) → ((v : ℕ) → T (p v) → T (q v)) → (c : Certificate) → T (rooted t d p c) → T (rooted t d q c)
  unfolding rooted
  rooted_up p q h c u =
      let k = h c.key (search tests) in
      search tests

  rooted_no_key : (p : ℕ → Bool) → ((v : ℕ) → p v ≡ false) → any (rooted t d p) t.certificates ≡ false
  unfolding rooted
  rooted_no_key p h = any_none (rooted t d p) (λ c. rw (h c.key) (ap (λ x. x && trusted_root t.seen c) (none (eqb c.domain d)))) t.certificates

  linked_no_key : (p : ℕ → Bool) → ((v : ℕ) → p v ≡ false) → word (linked t d p) t.certificates ≡ 0
  unfolding linked
  linked_no_key p h = word_none (linked t d p) (λ c. rw (h c.key) (ap (λ x. x && link t.seen c) (none (eqb c.domain d)))) t.certificates

  module _ (level : ℕ) where
    -- the keys asked for so far, what they found, and the slots whose verifying keys are to be asked for
    pub record Raising (left w : ℕ) : Type 0 where
      pub asked : ℕ → Bool
      pub going : Going t left
      pub whole : (v : ℕ) → (asked v || verifiers t left v) ≡ verifiers t level v
      pub rootless : any (rooted t d asked) t.certificates ≡ false
      pub found : w ≡ word (linked t d asked) t.certificates

    pub up_begin : Going t level → Raising level 0
    up_begin g =
        record {
          asked = λ v. false;
          going = g;
          whole = λ v. refl;
          rootless = rooted_no_key (λ v. false) (λ v. refl);
          found = sym (linked_no_key (λ v. false) (λ v. refl));
        }

    pub up_fits : {left w : ℕ} → Raising left w → w < 2 ^ length t.certificates
    up_fits {left} {w} s = subst (λ k. k < 2 ^ length t.certificates) (sym s.found) (word_lt (linked t d s.asked) t.certificates)

    pub up_end : {left w : ℕ} → Raising left w → left ≡ 0 → Some w ≡ level_of t d (verifiers t level) 0
    up_end {left} {w} s z =
        level_rootless t d (verifiers t level) 0 (sym s.rootless ∙ rooted_same s.asked (verifiers t level) all)
        (s.found ∙ linked_same s.asked (verifiers t level) all ∙ sym (or_zero_l _))
      where
        all : (v : ℕ) → s.asked v ≡ verifiers t level v
        all v =
            ended (s.asked v) (verifiers t left v) (verifiers t level v) (s.whole v)
            (ap (λ k. verifiers t k v) z ∙ any_nothing (λ c. eqb c.verifying v) t.certificates)

    module _ {left w : ℕ} (s : Raising left w) (nz : left ≢ 0) {i : ℕ} (e : i ≡ count_trailing_zeros 64 left) {rest : ℕ} (g : rest ≡ less_lowest 64 left)
        {c : Certificate} (q : c ≡ slot t i) where
      next_key : (v : ℕ) → (s.asked v || (eqb c.verifying v || verifiers t rest v)) ≡ verifiers t level v
      next_key v =
          ap (λ k. s.asked v || (eqb c.verifying v || verifiers t k v)) g
          ∙ ap (λ b. s.asked v || b) (sym (some_here s.going nz e (λ x. eqb x.verifying v) q))
          ∙ s.whole v

      -- a key of the next level was asked for
      was_asked : true ≡ any_of w (λ x. eqb x.key c.verifying) t.certificates → T (s.asked c.verifying)
      unfolding linked
      was_asked y =
          let a = ap (λ k. any_of k (λ x. eqb x.key c.verifying) t.certificates) s.found in
          let h = subst T (y ∙ a ∙ word_any (linked t d s.asked) (λ x. eqb x.key c.verifying) t.certificates) tt in
          let o = any_out (λ x. linked t d s.asked x && eqb x.key c.verifying) t.certificates h in
          let u : T (linked t d s.asked o.it && eqb o.it.key c.verifying) = o.passes in
          let k : T (eqb o.it.key c.verifying) = search tests in
          let a : T (s.asked o.it.key) = search tests in
          subst (λ v. T (s.asked v)) (eqb→eq o.it.key c.verifying k) a

      pub up_known : true ≡ any_of w (λ x. eqb x.key c.verifying) t.certificates → Raising rest w
      up_known y =
          record {
            asked = s.asked;
            going = goes_to s.going nz e g;
            whole = λ v. known (eqb c.verifying v) (s.asked v) (verifiers t rest v) (verifiers t level v) (next_key v) (λ x. again v x);
            rootless = s.rootless;
            found = s.found;
          }
        where
          again : (v : ℕ) → eqb c.verifying v ≡ true → s.asked v ≡ true
          again v x =
              let a = subst (λ k. T (s.asked k)) (eqb→eq c.verifying v (subst T (sym x) tt)) (was_asked y) in
              same (s.asked v) true (λ _. tt) (λ _. a)

      module _ {more : Option ℕ} (m : more ≡ level_of t d (λ v. eqb v c.verifying) w) where
        pub up_found : more ≡ None → None ≡ level_of t d (verifiers t level) 0
        up_found y =
            level_rooted t d (verifiers t level) 0 (same true (any (rooted t d (verifiers t level)) t.certificates) (λ _. root) (λ _. tt))
          where
            wanted : (v : ℕ) → T (eqb v c.verifying) → T (verifiers t level v)
            wanted v x =
                subst T (next_key v)
                (go (s.asked v) (eqb c.verifying v) (eq→eqb c.verifying v (sym (eqb→eq v c.verifying x))))
              where
                go : (a b : Bool) → T b → T (a || (b || verifiers t rest v))
                go true b x = tt
                go false true x = tt
                go false false x = absurd x

            root : T (any (rooted t d (verifiers t level)) t.certificates)
            root =
                let o = any_out (rooted t d (λ v. eqb v c.verifying)) t.certificates (subst T (sym (level_root t d (λ v. eqb v c.verifying) w m y)) tt) in
                any_in (rooted t d (verifiers t level)) o.mem (rooted_up (λ v. eqb v c.verifying) (verifiers t level) wanted o.it o.passes)

        pub up_more : {u : ℕ} → more ≡ Some u → Raising rest u
        up_more y =
            let found = level_some t d (λ v. eqb v c.verifying) w m y in
            record {
              asked = λ v. s.asked v || eqb v c.verifying;
              going = goes_to s.going nz e g;
              whole = λ v.
                  ap (λ b. (s.asked v || b) || verifiers t rest v) (eqb_turn v c.verifying)
                  ∙ taken (eqb c.verifying v) (s.asked v) (verifiers t rest v) (verifiers t level v) (next_key v);
              rootless = rooted_or s.asked (λ v. eqb v c.verifying) ∙ ap₂ (λ a b. a || b) s.rootless found.0;
              found =
                  found.1
                  ∙ ap (λ x. bit_or x (word (linked t d (λ v. eqb v c.verifying)) t.certificates)) s.found
                  ∙ linked_or s.asked (λ v. eqb v c.verifying);
            }

-- ---- all levels

module _ (t : Trust) (d : ℕ) where
  -- a record of the level that is good within r
  unfoldable reached : ℕ → (ℕ → Bool) → Certificate → Bool
  reached r p c = eqb c.domain d && p c.key && good r t c

  abbrev reaches : ℕ → (ℕ → Bool) → Bool
  reaches r p = any (reached r p) t.certificates

  abbrev root : (ℕ → Bool) → Bool
  root p = any (rooted t d p) t.certificates

  -- a link of the level, whose verifying key is v
  unfoldable led : (ℕ → Bool) → ℕ → Certificate → Bool
  led p v c = eqb c.domain d && p c.key && link t.seen c && eqb c.verifying v

  -- the keys that the next level looks for
  unfoldable above : (ℕ → Bool) → ℕ → Bool
  above p v = any (led p v) t.certificates

  never_zero : (p : ℕ → Bool) → T (reaches zero p) → ⊥
  unfolding reached good
  never_zero p h =
      let s = any_out (reached zero p) t.certificates h in
      let a : T (reached zero p s.it) = s.passes in
      let b : T (good zero t s.it) = search tests in
      b

  is_rooted : (p : ℕ → Bool) (c : Certificate) → T (eqb c.domain d) → T (p c.key) → T (trusted_root t.seen c) → T (rooted t d p c)
  unfolding rooted
  is_rooted p c x a b = search tests

  root_reaches : (r : ℕ) (p : ℕ → Bool) → T (root p) → T (reaches (suc r) p)
  unfolding reached rooted good
  root_reaches r p h =
      let s = any_out (rooted t d p) t.certificates h in
      let a : T (rooted t d p s.it) = s.passes in
      any_in (reached (suc r) p) s.mem (search tests)

  module _ (r : ℕ) (p : ℕ → Bool) where
    -- what verifies a link of a level is of the next
    from_link : (c : Certificate) → Memᴰ c t.certificates → T (eqb c.domain d) → T (p c.key) → T (link t.seen c)
        → T (any (serves (good r t) c.domain c.verifying) t.certificates) → T (reaches r (above p))
    unfolding reached led serves above
    from_link c m x a b h =
        let s = any_out (serves (good r t) c.domain c.verifying) t.certificates h in
        let e = s.it in
        let v : T (serves (good r t) c.domain c.verifying e) = s.passes in
        let o : T (eqb e.domain c.domain) = search tests in
        let k : T (eqb e.key c.verifying) = search tests in
        let g : T (good r t e) = search tests in
        let n : T (eqb e.domain d) = eq→eqb e.domain d (eqb→eq e.domain c.domain o ∙ eqb→eq c.domain d x) in
        let y : T (eqb c.verifying e.key) = eq→eqb c.verifying e.key (sym (eqb→eq e.key c.verifying k)) in
        let w : T (led p e.key c) = search tests in
        let z : T (above p e.key) = any_in (led p e.key) m w in
        any_in (reached r (above p)) s.mem (search tests)

    up : (T (root p) → ⊥) → T (reaches (suc r) p) → T (reaches r (above p))
    unfolding reached good
    up none h =
        let s = any_out (reached (suc r) p) t.certificates h in
        let v : T (reached (suc r) p s.it) = s.passes in
        let x : T (eqb s.it.domain d) = search tests in
        let a : T (p s.it.key) = search tests in
        let g : T (good (suc r) t s.it) = search tests in
        go s.it s.mem x a
        (or_cases (trusted_root t.seen s.it) (link t.seen s.it && any (serves (good r t) s.it.domain s.it.verifying) t.certificates) g)
      where
        go : (c : Certificate) → Memᴰ c t.certificates → T (eqb c.domain d) → T (p c.key)
            → T (trusted_root t.seen c) ⊎ T (link t.seen c && any (serves (good r t) c.domain c.verifying) t.certificates)
            → T (reaches r (above p))
        go c m x a (inl y) = absurd (none (any_in (rooted t d p) m (is_rooted p c x a y)))
        go c m x a (inr y) = from_link c m x a (search tests) (search tests)

    down : T (reaches r (above p)) → T (reaches (suc r) p)
    unfolding reached good led serves above
    down h =
        let s = any_out (reached r (above p)) t.certificates h in
        let e = s.it in
        let v : T (reached r (above p) e) = s.passes in
        let o : T (eqb e.domain d) = search tests in
        let x : T (above p e.key) = search tests in
        let y : T (good r t e) = search tests in
        let q = any_out (led p e.key) t.certificates x in
        let c = q.it in
        let z : T (led p e.key c) = q.passes in
        let n : T (eqb c.domain d) = search tests in
        let k : T (eqb c.verifying e.key) = search tests in
        let i : T (eqb e.domain c.domain) = eq→eqb e.domain c.domain (eqb→eq e.domain d o ∙ sym (eqb→eq c.domain d n)) in
        let j : T (eqb e.key c.verifying) = eq→eqb e.key c.verifying (sym (eqb→eq c.verifying e.key k)) in
        let w = any_in (serves (good r t) c.domain c.verifying) s.mem (search tests) in
        any_in (reached (suc r) p) q.mem (search tests)

    -- a level without a trusted root reaches as far as the next, with one link more
    step : root p ≡ false → reaches (suc r) p ≡ reaches r (above p)
    step h = same (reaches (suc r) p) (reaches r (above p)) (up (λ x. subst T h x)) down

  reach_one : (p : ℕ → Bool) → reaches 1 p ≡ root p
  reach_one p = go (root p) refl
    where
      go : (b : Bool) → root p ≡ b → reaches 1 p ≡ b
      go true e = same (reaches 1 p) true (λ x. tt) (λ x. root_reaches 0 p (subst T (sym e) tt))
      go false e = step 0 p e ∙ same (reaches 0 (above p)) false (λ x. never_zero (above p) x) (λ x. absurd x)

  reach_is : (n : ℕ) (p q : ℕ → Bool) → ((v : ℕ) → p v ≡ q v) → reaches n p ≡ reach n t d q
  unfolding reached reach
  reach_is n p q h =
      any_same (reached n p) (λ c. eqb c.domain d && q c.key && good n t c)
      (λ c. ap (λ x. eqb c.domain d && x && good n t c) (h c.key)) t.certificates

  module _ (p : ℕ → Bool) {r : Option ℕ} (q : r ≡ level_of t d p 0) where
    pub climb_found : (n : ℕ) → n ≢ 0 → r ≡ None → 1 ≡ least n (λ m. reach m t d p)
    climb_found n nz y =
        least_one (λ m. reach m t d p) n nz (sym (reach_is 1 p p (λ v. refl)) ∙ reach_one p ∙ level_root t d p 0 q y)

    module _ {w : ℕ} (y : r ≡ Some w) where
      -- the verifying keys of the links that were found are those that the next level looks for
      next_keys : (v : ℕ) → above p v ≡ verifiers t w v
      unfolding above led linked
      next_keys v =
          let e = (level_some t d p 0 q y).1 ∙ or_zero_l (word (linked t d p) t.certificates) in
          sym (ap (λ k. verifiers t k v) e ∙ word_any (linked t d p) (λ c. eqb c.verifying v) t.certificates)

      pub climb_on : (n : ℕ) → n ≢ 0 → (m : ℕ) → m ≡ least (n - 1) (λ k. reach k t d (verifiers t w))
          → cond (eqb m 0) 0 (suc m) ≡ least n (λ k. reach k t d p)
      climb_on n nz m e =
          let j : suc (n - 1) ≡ n = omega arith in
          ap (λ k. cond (eqb k 0) 0 (suc k)) e
          ∙ least_later (λ k. reach k t d p) (λ k. reach k t d (verifiers t w)) lifts never (n - 1)
          ∙ ap (λ k. least k (λ k. reach k t d p)) j
        where
          lifts : (k : ℕ) → reach (suc k) t d p ≡ reach k t d (verifiers t w)
          lifts k = sym (reach_is (suc k) p p (λ v. refl)) ∙ step k p (level_some t d p 0 q y).0 ∙ reach_is k (above p) (verifiers t w) next_keys

          never : reach 0 t d (verifiers t w) ≡ false
          never =
              sym (reach_is 0 (verifiers t w) (verifiers t w) (λ v. refl))
              ∙ same (reaches 0 (verifiers t w)) false (λ x. never_zero (verifiers t w) x) (λ x. absurd x)

-- ---- the link count of a key

pub links_by : (t : Trust) (k d n : ℕ) → (k ≢ 0) × (d ≢ 0) → n ≡ least 4 (λ m. reach m t d (λ v. eqb v k)) → n ≡ links t k d
unfolding links least within serves reach
links_by t k d n z e = e ∙ rw (ne_eqb d 0 z.1, ne_eqb k 0 z.0)

-- ---- without a key or a domain there is no chain

never : (n : ℕ) → 0 ≡ least n (λ m. false)
unfolding least
never zero = refl
never (suc n) = rw (sym (never n))

pub links_unsigned : (t : Trust) (k d : ℕ) → (eqb k 0 || eqb d 0) ≡ true → 0 ≡ links t k d
unfolding links within
links_unsigned t k d h = go (eqb k 0) (eqb d 0) h
  where
    go : (x y : Bool) → (x || y) ≡ true → 0 ≡ cond y 0 (least most_links (λ n. not x && any (serves (good n t) d k) t.certificates))
    go x true h = refl
    go true false h = never most_links
    go false false h = absurd (false≢true h)

pub both_signed : (k d : ℕ) → (eqb k 0 || eqb d 0) ≡ false → (k ≢ 0) × (d ≢ 0)
both_signed k d h = go (eqb k 0) (eqb d 0) (λ x. neqb→ne k 0 x) (λ x. neqb→ne d 0 x) h
  where
    go : (x y : Bool) → (T (not x) → k ≢ 0) → (T (not y) → d ≢ 0) → (x || y) ≡ false → (k ≢ 0) × (d ≢ 0)
    go true y f g h = absurd (false≢true (sym h))
    go false true f g h = absurd (false≢true (sym h))
    go false false f g h = (f tt, g tt)
