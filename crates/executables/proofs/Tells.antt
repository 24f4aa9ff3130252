-- What verify and request are told: the executable's domain and its link count. Assumes nothing.
use Prim.Native.Nat.{ℕ, ◌<◌}
use mathlib.Core.Path.{◌≡◌, refl, sym, ap, ◌∙◌}
use lib.{Dec.T, ListN.length}
use Rattle.records.specs.{Phone.{Trust, Phone, executable_at}, declared.Executable.Executable, declared.Event.Event}
use Rattle.rules.specs.{declared.Answer.Answer, declared.Chained.Chained, Chains.{links, chain_of}, Forms.with_kind}
use Rattle.rules.specs.{Codes.{is_executable, executable_named, executable_known}, Effects.changed, Step.{answer_done, done}, Words.first_place}
use Rattle.laws.proofs.{Accepted.Accepted, Accepts.true_T, Places.place_some}
use Rattle.keeping.proofs.{Heard.named_verified, Verified.{verdict, one_verified, verify_changed}}
use Rattle.handling.proofs.Named.{executable_here}
use Rattle.executables.proofs.Untouched.{request_unchanged}

-- what is told of an executable
abbrev of_executable : Trust → Executable → Answer
of_executable t x = answer_done x.domain (links t x.signing x.domain)

module _ (p : Phone) (ok : Accepted p) (e : Event) {slot : ℕ} (place : slot ≡ first_place (is_executable e.id) p.executables) where
  at_slot : executable_named p e.id ≡ executable_at p slot
  at_slot = sym (executable_here p e.id place refl)

  pub verify_tells : slot < length p.executables → {r : Chained} → r ≡ chain_of p.trust (executable_at p slot).signing
      → answer_done r.domain r.links ≡ done (with_kind 12 e) (changed (with_kind 12 e) p)
  unfolding done chain_of executable_known
  verify_tells h q =
      let k : T (executable_known p e.id) = true_T _ (place_some (is_executable e.id) p.executables place refl h) in
      let n : executable_named (one_verified e.id p) e.id ≡ verdict p.trust (executable_at p slot) =
      named_verified p e.id k ∙ ap (verdict p.trust) at_slot in
      ap (λ r. answer_done r.domain r.links) q
      ∙ ap (of_executable p.trust) (sym n)
      ∙ ap (λ s. of_executable s.trust (executable_named s e.id)) (sym (verify_changed p (with_kind 12 e) ok refl))

  -- the phone is unchanged, and the executable is the one at the slot
  pub request_tells : {x : Executable} → x ≡ executable_at p slot → {n : ℕ} → n ≡ links p.trust x.signing x.domain
      → answer_done x.domain n ≡ done (with_kind 15 e) (changed (with_kind 15 e) p)
  unfolding done
  request_tells {x} q i =
      ap (answer_done x.domain) i
      ∙ ap (of_executable p.trust) (q ∙ sym at_slot)
      ∙ ap (λ s. of_executable s.trust (executable_named s e.id)) (sym (request_unchanged p ok e))
