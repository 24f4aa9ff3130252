-- Every executable verified: a run of verify events, what it comes to, and that it keeps the order. Assumes nothing.
use Prim.Native.Nat.{ℕ}
use mathlib.Core.List.Memᴰ
use mathlib.Core.{Bool.{Bool, true, false, cond, not, ◌||◌}, List.{List, [], ◌∷◌, map, Memᴰ}}
use mathlib.Core.{Logic.{◌≢◌, ◌⊎◌, inl, inr}, Path.{◌≡◌, refl, subst, subst₂, sym, ap, ◌∙◌}}
use lib.{Dec.{T, T_not, eqb, eqb_refl, eqb→eq}, ListN.length}
use Rattle.records.specs.{Phone.{Trust, Phone, no_executable, with_executables, in_domain}, declared.Executable.Executable, declared.Event.Event}
use Rattle.rules.specs.{Words.{any, at}, Chains.{chains_to, chain_domain, chain_of}, Forms.{with_kind, id_form}}
use Rattle.rules.specs.{Codes.{is_executable, executable_known, code_of}, Effects.{verify, effect, settle, changed}, Demands.verify_event}
use Rattle.rules.specs.After.{after, after_all}
use Rattle.laws.proofs.{Tests.{tests, by_test, neqb→ne, not_intro}, Lists.any_in, Changes.at_cases, Accepted.{Stored, Accepted}, Shortest.chains_signed}
use Rattle.laws.proofs.Domain.{KeysApart, chain_domain_is, chain_found, chain_small}
use Rattle.keeping.proofs.{AcceptedKept.{accepted_after, accepted_after_all}}
use Rattle.keeping.proofs.{Done.{the_tests, unrefused_done, after_cases, nor_i}, Order.{Fewer, Below, Over, Under, fewer_chains}}
use Rattle.keeping.proofs.Settle.{map_id, settle_still}

-- each executable slot's number is told once, in order
unfoldable pub verified : Phone → Phone
verified p = after_all (map (λ x. verify_event x.id) p.executables) p

-- an executable after its verify event
abbrev pub verdict : Trust → Executable → Executable
verdict t x = in_domain (chain_domain t x.signing) x

-- ---- lists

map_ext : {A B : Type 0} (f g : A → B) (l : List A) → ((x : A) → Memᴰ x l → f x ≡ g x) → map f l ≡ map g l
map_ext f g [] h = refl
map_ext f g (x ∷ l) h =
    let a : f x ≡ g x = h x (Memᴰ.head refl) in
    let b : map f l ≡ map g l = map_ext f g l (λ y m. h y (Memᴰ.tail m)) in
    cc

map_map : {A B C : Type 0} (f : B → C) (g : A → B) (l : List A) → map f (map g l) ≡ map (λ x. f (g x)) l
map_map f g [] = refl
map_map f g (x ∷ l) = let a = map_map f g l in cc

at_is : {A : Type 0} (t : A → Bool) (f : A → A) (x : A) → (T (t x) → f x ≡ x) → at t f x ≡ x
at_is t f x h = go (t x) h
  where
    go : (b : Bool) → (T b → f x ≡ x) → cond b (f x) x ≡ x
    go true h = h tt
    go false h = refl

-- ---- one verify event

-- the phone with the executable of number n verified
abbrev pub one_verified : ℕ → Phone → Phone
one_verified n p = with_executables (map (at (is_executable n) (verdict p.trust)) p.executables) p

-- a free slot is verified to itself
free_verdict : (t : Trust) → verdict t no_executable ≡ no_executable
free_verdict t = ap (λ d. in_domain d no_executable) (go (chain_found t 0))
  where
    go : (chain_domain t 0 ≡ 0) ⊎ T (chains_to t 0 (chain_domain t 0)) → chain_domain t 0 ≡ 0
    go (inl z) = z
    go (inr h) = absurd (chains_signed t 0 (chain_domain t 0) h refl)

-- I8, of one executable
abbrev pub ChainsToOwn : Trust → Executable → Type 0
ChainsToOwn t x = x.domain ≢ 0 → T (chains_to t x.signing x.domain)

pub verdict_chains : (t : Trust) (x : Executable) → ChainsToOwn t (verdict t x)
verdict_chains t x n = go (chain_found t x.signing)
  where
    d : ℕ
    d = chain_domain t x.signing

    go : (d ≡ 0) ⊎ T (chains_to t x.signing d) → T (chains_to t x.signing d)
    go (inl z) = absurd (n z)
    go (inr h) = h

one_chained : (p : Phone) (n : ℕ) → Accepted p → (x : Executable) → Memᴰ x (one_verified n p).executables → ChainsToOwn p.trust x
one_chained p n ok x m nz =
    let o = Memᴰ.of_map (at (is_executable n) (verdict p.trust)) p.executables m in
    subst (ChainsToOwn p.trust) o.2 (go o.0 o.1) nz
  where
    go : (y : Executable) → Memᴰ y p.executables → ChainsToOwn p.trust (at (is_executable n) (verdict p.trust) y)
    go y m =
        at_cases (λ z w. ChainsToOwn p.trust z) (is_executable n) (verdict p.trust) y
        (λ t. verdict_chains p.trust y) (λ t. ok.chained y m)

verify_done : (p : Phone) (n : ℕ) → n ≢ 0 → T (executable_known p n) → T (eqb (code_of p (verify_event n)) 0)
unfolding the_tests id_form
verify_done p n nz k =
    unrefused_done p (verify_event n) tt
    (record {
      formed = search tests;
      known = nor_i (not (executable_known p n) || false) false (nor_i (not (executable_known p n)) false (not_intro (executable_known p n) k) tt) tt;
      allowed = tt;
      forward = tt;
      in_table = tt;
      right_card = tt;
      here = tt;
      fresh = tt;
      own_key = tt;
      install_own = tt;
      mark_own = tt;
      such_root = tt;
      none_valid = tt;
      room = tt;
      table_open = tt;
      permitted = tt;
      replaces = tt;
      dated = tt;
    })

pub verify_effect : (p : Phone) (e : Event) → e.kind ≡ 12 → effect e p ≡ one_verified e.id p
unfolding effect verify chain_of
verify_effect p e h = subst (λ k. effect (with_kind k e) p ≡ one_verified e.id p) (sym h) refl

pub verify_changed : (p : Phone) (e : Event) → Accepted p → e.kind ≡ 12 → changed e p ≡ one_verified e.id p
unfolding changed
verify_changed p e ok h = ap settle (verify_effect p e h) ∙ settle_still (one_verified e.id p) (one_chained p e.id ok)

-- a refused verify event names no executable, and a free slot is verified to itself
after_verify : (p : Phone) (n : ℕ) → Accepted p → after (verify_event n) p ≡ one_verified n p
unfolding executable_known changed
after_verify p n ok =
    after_cases (λ q. q ≡ one_verified n p) (verify_event n) p
    (λ d. verify_changed p (verify_event n) ok refl)
    (λ r. ap (λ l. with_executables l p) (sym (map_id (at (is_executable n) (verdict p.trust)) p.executables (kept r))))
  where
    free : (x : Executable) → (x ≡ no_executable) ⊎ Stored (length p.table) x → x.id ≡ 0 → verdict p.trust x ≡ x
    free x (inl z) i = ap (verdict p.trust) z ∙ free_verdict p.trust ∙ sym z
    free x (inr s) i = absurd (s.id i)

    same : T (not (eqb (code_of p (verify_event n)) 0)) → (x : Executable) → Memᴰ x p.executables → T (is_executable n x) → verdict p.trust x ≡ x
    same r x m t =
        by_test (eqb n 0)
        (λ z. free x (ok.executables x m) (eqb→eq x.id n t ∙ eqb→eq n 0 z))
        (λ z. absurd (T_not (eqb (code_of p (verify_event n)) 0) r (verify_done p n (neqb→ne n 0 z) (any_in (is_executable n) m t))))

    kept : T (not (eqb (code_of p (verify_event n)) 0)) → (x : Executable) → Memᴰ x p.executables → at (is_executable n) (verdict p.trust) x ≡ x
    kept r x m = at_is (is_executable n) (verdict p.trust) x (same r x m)

-- ---- all verify events

-- verified by its own number, and then by one of others: once is enough
twice : (t : Trust) (n : ℕ) (ns : List ℕ) (x : Executable)
    → at (λ y. any (eqb y.id) ns) (verdict t) (at (is_executable n) (verdict t) x) ≡ at (λ y. any (eqb y.id) (n ∷ ns)) (verdict t) x
unfolding any
twice t n ns x = go (is_executable n x)
  where
    again : (b : Bool) → cond b (verdict t x) (verdict t x) ≡ verdict t x
    again true = refl
    again false = refl

    go : (a : Bool) → at (λ y. any (eqb y.id) ns) (verdict t) (cond a (verdict t x) x) ≡ cond (a || any (eqb x.id) ns) (verdict t x) x
    go true = again (any (eqb x.id) ns)
    go false = refl

after_verifies : (ns : List ℕ) (p : Phone) → Accepted p
    → after_all (map verify_event ns) p ≡ with_executables (map (at (λ x. any (eqb x.id) ns) (verdict p.trust)) p.executables) p
unfolding after_all any
after_verifies [] p ok = ap (λ l. with_executables l p) (sym (map_id _ p.executables (λ x m. refl)))
after_verifies (n ∷ ns) p ok =
    let s : after (verify_event n) p ≡ one_verified n p = after_verify p n ok in
    let r = after_verifies ns (one_verified n p) (subst Accepted s (accepted_after p (verify_event n) ok)) in
    ap (after_all (map verify_event ns)) s ∙ r
    ∙ ap (λ l. with_executables l p) (map_map _ _ p.executables ∙ map_ext _ _ p.executables (λ x m. twice p.trust n ns x))

-- the phone with every executable verified
abbrev pub all_verified : Phone → Phone
all_verified p = with_executables (map (verdict p.trust) p.executables) p

verified_is : (p : Phone) → Accepted p → verified p ≡ all_verified p
unfolding verified
verified_is p ok =
    ap (λ es. after_all es p) (sym (map_map verify_event (λ x. x.id) p.executables))
    ∙ after_verifies ids p ok
    ∙ ap (λ l. with_executables l p) (map_ext _ _ p.executables (λ x m. go x (any (eqb x.id) ids) (listed x m)))
  where
    ids : List ℕ
    ids = map (λ x. x.id) p.executables

    listed : (x : Executable) → Memᴰ x p.executables → T (any (eqb x.id) ids)
    listed x m = any_in (eqb x.id) (Memᴰ.map (λ x. x.id) m) (eqb_refl x.id)

    go : (x : Executable) (b : Bool) → T b → cond b (verdict p.trust x) x ≡ verdict p.trust x
    go x true t = refl
    go x false t = absurd t

pub accepted_verified : (p : Phone) → Accepted p → Accepted (verified p)
unfolding verified
accepted_verified p ok = accepted_after_all (map (λ x. verify_event x.id) p.executables) p ok

-- verifying twice is verifying once
pub verified_twice : (p : Phone) → Accepted p → verified (verified p) ≡ verified p
verified_twice p ok =
    let once = verified_is p ok in
    ap verified once
    ∙ verified_is (all_verified p) (subst Accepted once (accepted_verified p ok))
    ∙ ap (λ l. with_executables l p) (map_map (verdict p.trust) (verdict p.trust) p.executables)
    ∙ sym once

-- ---- verifying keeps the order

-- what a key chains to in the lower phone, it chains to in the higher one
chain_domain_under : (q p : Trust) → Fewer q p → KeysApart p → (k : ℕ) → (chain_domain q k ≡ 0) ⊎ (chain_domain q k ≡ chain_domain p k)
chain_domain_under q p f apart k =
    by_test (eqb (chain_domain q k) 0) (λ t. inl (eqb→eq (chain_domain q k) 0 t)) (λ t. go (chain_found q k) (neqb→ne (chain_domain q k) 0 t))
  where
    go : (chain_domain q k ≡ 0) ⊎ T (chains_to q k (chain_domain q k)) → chain_domain q k ≢ 0 → (chain_domain q k ≡ 0) ⊎ (chain_domain q k ≡ chain_domain p k)
    go (inl z) n = inl z
    go (inr h) n = inr (sym (chain_domain_is p apart k (chain_domain q k) n (chain_small q k) (fewer_chains q p f k (chain_domain q k) h)))

under_verdicts : (q p : Phone) → Accepted p → Under q p → Under (all_verified q) (all_verified p)
under_verdicts q p ok u = record { trust = u.trust; executables = go; table = u.table }
  where
    both : (lo hi : Executable) → Below lo hi → Below (verdict q.trust lo) (verdict p.trust hi)
    both lo hi b =
        record {
          id = b.id;
          signing = b.signing;
          domain =
              subst (λ k. (chain_domain q.trust lo.signing ≡ 0) ⊎ (chain_domain q.trust lo.signing ≡ chain_domain p.trust k)) b.signing
              (chain_domain_under q.trust p.trust u.trust ok.trust.held.keys lo.signing);
          permissions = b.permissions;
        }

    go : (x : Executable) → Memᴰ x (map (verdict q.trust) q.executables) → x.id ≢ 0 → Over (all_verified p) x
    go x m n =
        let s = Memᴰ.of_map (verdict q.trust) q.executables m in
        let o = u.executables s.0 s.1 (λ z. n (ap (λ y. y.id) (sym s.2) ∙ z)) in
        record {
          executable = verdict p.trust o.executable;
          mem = Memᴰ.map (verdict p.trust) o.mem;
          below = subst (λ y. Below y (verdict p.trust o.executable)) s.2 (both s.0 o.executable o.below);
        }

pub under_verified : (q p : Phone) → Accepted q → Accepted p → Under q p → Under (verified q) (verified p)
under_verified q p okq okp u = subst₂ Under (sym (verified_is q okq)) (sym (verified_is p okp)) (under_verdicts q p okp u)
