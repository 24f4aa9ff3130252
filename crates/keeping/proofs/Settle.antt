-- Settling in the order: it takes domains and gives none, and takes nothing from an executable whose chain stands. Assumes nothing.
use mathlib.Core.List.Memᴰ
use mathlib.Core.{Bool.not, List.{List, [], ◌∷◌, map, Memᴰ}, Logic.{◌≢◌, ◌⊎◌, inl, inr}}
use mathlib.Core.Path.{◌≡◌, refl, subst, subst₂, sym, ap, ◌∙◌}
use lib.Dec.{T, T_not}
use Rattle.records.specs.{Phone.{Phone, with_executables}, declared.Executable.Executable, declared.Event.Event}
use Rattle.rules.specs.{Chains.chains_to, Forms.with_kind, Effects.{request, effect, settled, settle, changed}}
use Rattle.rules.specs.After.{after}
use Rattle.laws.proofs.Accepted.{Accepted}
use Rattle.keeping.proofs.{ExecutablesKept.settled_cases, Done.after_cases, Order.{Below, Over, Under, fewer_chains, below_refl}}
use Rattle.keeping.proofs.Narrowing.{under_map}

pub under_settle : (p : Phone) → Under (settle p) p
unfolding settle
under_settle p =
    under_map p (settled p.trust)
    (λ x n.
    settled_cases (λ y. Below y x) p.trust x (λ k. below_refl x)
    (λ d c. record { id = refl; signing = refl; domain = inl refl; permissions = λ a h. h }))

pub over_settle : (p q : Phone) → Accepted p → Under p q → Under p (settle q)
unfolding settle
over_settle p q ok u = record { trust = u.trust; executables = go; table = u.table }
  where
    untrusted : (x hi : Executable) → Memᴰ x p.executables → Below x hi → (x.domain ≡ 0) ⊎ (x.domain ≡ hi.domain)
        → hi.domain ≢ 0 → T (not (chains_to q.trust hi.signing hi.domain)) → x.domain ≡ 0
    untrusted x hi m b (inl z) d c = z
    untrusted x hi m b (inr e) d c =
        let own = ok.chained x m (λ z. d (sym e ∙ z)) in
        let kept = fewer_chains p.trust q.trust u.trust x.signing x.domain own in
        absurd
        (T_not (chains_to q.trust hi.signing hi.domain) c
        (subst₂ (λ k d. T (chains_to q.trust k d)) b.signing e kept))

    go : (x : Executable) → Memᴰ x p.executables → x.id ≢ 0 → Over (with_executables (map (settled q.trust) q.executables) q) x
    go x m n =
        let o = u.executables x m n in
        let b = o.below in
        record {
          executable = settled q.trust o.executable;
          mem = Memᴰ.map (settled q.trust) o.mem;
          below =
              settled_cases (Below x) q.trust o.executable (λ k. b)
              (λ d c.
              let none = untrusted x o.executable m b b.domain d c in
              record { id = b.id; signing = b.signing; domain = inl none; permissions = b.permissions });
        }

-- ---- settling finds nothing to do where every executable chains to its domain

pub map_id : {A : Type 0} (f : A → A) (l : List A) → ((x : A) → Memᴰ x l → f x ≡ x) → map f l ≡ l
map_id f [] h = refl
map_id f (x ∷ l) h =
    let a : f x ≡ x = h x (Memᴰ.head refl) in
    let b : map f l ≡ l = map_id f l (λ y m. h y (Memᴰ.tail m)) in
    cc

pub settle_still : (p : Phone)
    → ((x : Executable) → Memᴰ x p.executables → x.domain ≢ 0 → T (chains_to p.trust x.signing x.domain)) → settle p ≡ p
unfolding settle
settle_still p chained = ap (λ l. with_executables l p) (map_id (settled p.trust) p.executables still)
  where
    still : (x : Executable) → Memᴰ x p.executables → settled p.trust x ≡ x
    still x m =
        settled_cases (λ y. y ≡ x) p.trust x (λ k. refl)
        (λ d c. absurd (T_not (chains_to p.trust x.signing x.domain) c (chained x m d)))

-- ---- a request changes nothing

request_effect : (p : Phone) (e : Event) → e.kind ≡ 15 → effect e p ≡ p
unfolding effect request
request_effect p e h = subst (λ k. effect (with_kind k e) p ≡ p) (sym h) refl

pub request_changed : (p : Phone) → Accepted p → (e : Event) → e.kind ≡ 15 → changed e p ≡ p
unfolding changed
request_changed p ok e h = ap settle (request_effect p e h) ∙ settle_still p ok.chained

pub request_still : (p : Phone) → Accepted p → (e : Event) → e.kind ≡ 15 → after e p ≡ p
unfolding changed
request_still p ok e h = after_cases (λ q. q ≡ p) e p (λ d. request_changed p ok e h) (λ r. refl)
