-- What an event is told, in bytes: its code, and the domain and the links of a verify and of a request. Assumes nothing.
use Prim.Native.Nat.{ℕ, ◌≤◌}
use mathlib.Core.{Bool.{Bool, true, false, cond, not, ◌||◌, false≢true}, List.List, Logic.{◌≢◌, ◌⊎◌, inl, inr, ◌↔◌}, Path.{◌≡◌, refl, sym, ap, ap₂, ◌∙◌}}
use native.Mathlib.Omega.{arith}
use lib.Dec.{T, T_not, eqb, eqb→eq}
use Rattle.records.specs.{Phone.{Trust, Phone, decode}, declared.Event.Event}
use Rattle.records.proofs.RoundTrip.{decode_encode}
use Rattle.rules.specs.{Chains.{most_links, links}, Explicit.{ChainWithin, Shortest}, Codes.{executable_named, code_of, code}, Effects.changed}
use Rattle.rules.specs.{declared.Answer.Answer, Step.{refused, refused_at, refusal, done, step}}
use Rattle.laws.proofs.{Tests.{eq→eqb, or_i, or_j, or_cases}, Accepted.Accepted, Accepts.accepted_out}
use Rattle.keeping.specs.OneEvent.{event_of, key_named, phone_after}
use Rattle.keeping.proofs.Heard.{heard, verify_domain, domain_exact, none_links, counted}
use Rattle.keeping.proofs.Bytes.{refusal_cases, Whole, code_whole_out, step_done, step_cases}

-- ---- opening

abbrev pub zero_if : Bool → ℕ
zero_if b = cond b 0 1

pub opened : (b : Bool) → ((zero_if b ≡ 0) ↔ (b ≡ true)) × ((zero_if b ≡ 0) ⊎ (zero_if b ≡ 1))
opened true = ((λ z. refl, λ e. refl), inl refl)
opened false = ((λ z. absurd (omega arith), λ e. absurd (false≢true e)), inr refl)

-- ---- the answer by kind

-- of a verify and a request: the domain of the executable named, and its links
abbrev telling : Event → Bool
telling e = eqb e.kind 12 || eqb e.kind 15

abbrev told_of : Trust → ℕ → ℕ → Answer
told_of t k d = record { code = 0; domain = d; links = links t k d; rule = 0; offset = 0 }

abbrev told_named : Phone → ℕ → Answer
told_named p n = told_of p.trust (executable_named p n).signing (executable_named p n).domain

done_cases : (P : Answer → Type 0) (e : Event) (p : Phone) → (T (telling e) → P (told_named p e.id)) → (T (not (telling e)) → P (refused 0)) → P (done e p)
unfolding done
done_cases P e p f g = go (telling e) f g
  where
    go : (b : Bool) → (T b → P (told_named p e.id)) → (T (not b) → P (refused 0)) → P (cond b (told_named p e.id) (refused 0))
    go true f g = f tt
    go false f g = g tt

done_code : (e : Event) (p : Phone) → (done e p).code ≡ 0
done_code e p = done_cases (λ a. a.code ≡ 0) e p (λ t. refl) (λ t. refl)

done_quiet : (e : Event) (p : Phone) → e.kind ≢ 12 → e.kind ≢ 15 → ((done e p).domain ≡ 0) × ((done e p).links ≡ 0)
done_quiet e p v r =
    done_cases (λ a. (a.domain ≡ 0) × (a.links ≡ 0)) e p
    (λ t. absurd (go (or_cases (eqb e.kind 12) (eqb e.kind 15) t))) (λ t. (refl, refl))
  where
    go : T (eqb e.kind 12) ⊎ T (eqb e.kind 15) → ⊥
    go (inl t) = v (eqb→eq e.kind 12 t)
    go (inr t) = r (eqb→eq e.kind 15 t)

done_none : (e : Event) (p : Phone) → (done e p).domain ≡ 0 → (done e p).links ≡ 0
done_none e p = done_cases (λ a. a.domain ≡ 0 → a.links ≡ 0) e p (λ t z. none_links p.trust _ _ z) (λ t z. refl)

done_told : (e : Event) (p : Phone) → T (telling e) → done e p ≡ told_named p e.id
done_told e p t = done_cases (λ a. a ≡ told_named p e.id) e p (λ s. refl) (λ n. absurd (T_not (telling e) n t))

tells : (e : Event) → (e.kind ≡ 12) ⊎ (e.kind ≡ 15) → T (telling e)
tells e (inl i) = or_i (eqb e.kind 12) (eqb e.kind 15) (eq→eqb e.kind 12 i)
tells e (inr i) = or_j (eqb e.kind 12) (eqb e.kind 15) (eq→eqb e.kind 15 i)

-- ---- in bytes

module _ (l : List ℕ) (c : ℕ) where
  refusal_code : (refusal l c).code ≡ c
  refusal_code = refusal_cases (λ a. a.code ≡ c) l c (λ e. sym e) (λ n. refl)

  refusal_quiet : ((refusal l c).domain ≡ 0) × ((refusal l c).links ≡ 0)
  refusal_quiet = refusal_cases (λ a. (a.domain ≡ 0) × (a.links ≡ 0)) l c (λ e. (refl, refl)) (λ n. (refl, refl))

-- nothing is told of a fault but with code 1
abbrev Faultless : Answer → Type 0
Faultless a = (a.rule ≡ 0) × (a.offset ≡ 0)

module _ (l v : List ℕ) where
  pub told_where : code l v ≡ 1 → (step l v).answer ≡ refused_at l
  told_where h =
      step_cases (λ o. o.answer ≡ refused_at l) l v (λ z. let no : ⊥ = omega arith in absurd no)
      (λ n. refusal_cases (λ a. a ≡ refused_at l) l (code l v) (λ e. refl) (λ n. absurd (n h)))

  pub told_no_fault : code l v ≢ 1 → Faultless (step l v).answer
  told_no_fault h =
      step_cases (λ o. Faultless o.answer) l v
      (λ z. done_cases Faultless (event_of v) (changed (event_of v) (decode l)) (λ t. (refl, refl)) (λ t. (refl, refl)))
      (λ n. refusal_cases Faultless l (code l v) (λ e. absurd (h e)) (λ n. (refl, refl)))

  pub answer_code : (step l v).answer.code ≡ code l v
  answer_code =
      step_cases (λ o. o.answer.code ≡ code l v) l v
      (λ z. done_code (event_of v) (changed (event_of v) (decode l)) ∙ sym z) (λ n. refusal_code l (code l v))

  pub refused_quiet : code l v ≢ 0 → ((step l v).answer.domain ≡ 0) × ((step l v).answer.links ≡ 0)
  refused_quiet h =
      step_cases (λ o. (o.answer.domain ≡ 0) × (o.answer.links ≡ 0)) l v (λ z. absurd (h z)) (λ n. refusal_quiet l (code l v))

  pub answer_quiet : (event_of v).kind ≢ 12 → (event_of v).kind ≢ 15 → ((step l v).answer.domain ≡ 0) × ((step l v).answer.links ≡ 0)
  answer_quiet a b =
      step_cases (λ o. (o.answer.domain ≡ 0) × (o.answer.links ≡ 0)) l v
      (λ z. done_quiet (event_of v) (changed (event_of v) (decode l)) a b) (λ n. refusal_quiet l (code l v))

  pub answer_none : (step l v).answer.domain ≡ 0 → (step l v).answer.links ≡ 0
  answer_none =
      step_cases (λ o. o.answer.domain ≡ 0 → o.answer.links ≡ 0) l v
      (λ z. done_none (event_of v) (changed (event_of v) (decode l))) (λ n z. (refusal_quiet l (code l v)).1)

  module _ (h : code l v ≡ 0) where
    w : Whole l v
    w = code_whole_out l v h

    ok : Accepted (decode l)
    ok = (accepted_out l w.image).1

    z : T (eqb (code_of (decode l) (event_of v)) 0)
    z = eq→eqb (code_of (decode l) (event_of v)) 0 w.code

    -- what a verify and a request are told, and the trust after them
    module _ (k : ((event_of v).kind ≡ 12) ⊎ ((event_of v).kind ≡ 15)) where
      pub answer_domain : (step l v).answer.domain ≡ (executable_named (phone_after l v) (event_of v).id).domain
      answer_domain =
          let q = changed (event_of v) (decode l) in
          ap (λ o. o.answer.domain) (step_done l v h) ∙ ap (λ a. a.domain) (done_told (event_of v) q (tells (event_of v) k))
          ∙ ap (λ p. (executable_named p (event_of v).id).domain) (sym (ap (λ o. decode o.image) (step_done l v h) ∙ decode_encode q))

      answer_told : (step l v).answer ≡ told_of (decode l).trust (key_named l v) (executable_named (changed (event_of v) (decode l)) (event_of v).id).domain
      answer_told =
          let i = heard (decode l) ok (event_of v) z k in
          ap (λ o. o.answer) (step_done l v h) ∙ done_told (event_of v) (changed (event_of v) (decode l)) (tells (event_of v) k)
          ∙ ap₂ (λ t s. told_of t s (executable_named (changed (event_of v) (decode l)) (event_of v).id).domain) i.trust i.signing

      trust_after : (phone_after l v).trust ≡ (decode l).trust
      trust_after =
          ap (λ o. (decode o.image).trust) (step_done l v h)
          ∙ ap (λ p. p.trust) (decode_encode (changed (event_of v) (decode l))) ∙ (heard (decode l) ok (event_of v) z k).trust

    pub verify_exact : (event_of v).kind ≡ 12 → (d : ℕ) → d ≢ 0
        → ((step l v).answer.domain ≡ d) ↔ ((key_named l v ≢ 0) × ChainWithin most_links (phone_after l v).trust d (key_named l v))
    verify_exact i d nz =
        rw (answer_told (inl i), trust_after (inl i), verify_domain (decode l) ok (event_of v) z i) (domain_exact (decode l) ok (key_named l v) d nz)

    pub count_shortest : ((event_of v).kind ≡ 12) ⊎ ((event_of v).kind ≡ 15) → (step l v).answer.domain ≢ 0
        → ((step l v).answer.links ≢ 0)
        × ((step l v).answer.links ≤ most_links)
        × Shortest (phone_after l v).trust (step l v).answer.domain (key_named l v) (step l v).answer.links
    count_shortest k =
        rw (answer_told k, trust_after k)
        (λ nz. counted (decode l).trust (key_named l v) _ nz ((heard (decode l) ok (event_of v) z k).chains nz))
