-- An event about executables that is done: what its writer asks, and that what it wrote and told is what the rules say. Assumes nothing.
use Prim.Native.Nat.{ℕ, ◌<◌}
use mathlib.Core.{Bool.{Bool, true, false}, List.List, Path.{◌≡◌, sym, ap, ◌∙◌}}
use lib.ListN.{length}
use Rattle.records.specs.{Phone.{decode, encode, executable_at}, declared.Event.Event, declared.Executable.Executable}
use Rattle.rules.specs.{declared.Answer.Answer, declared.Chained.Chained, Chains.{links, chain_of}, Forms.with_kind}
use Rattle.rules.specs.{Effects.{effect, install_executable, delete_executable, verify, permit}, Step.{answer_done, done}}
use Rattle.std.specs.Prelude.{Ok}
use Rattle.handling.specs.Handled.{Tried}
use Rattle.executables.specs.Acting.{permission_kind, permission_write}
use Rattle.keeping.proofs.Unrefused.{id_formed}
use Rattle.handling.proofs.Handles.{tried_done, tried_still, accepted_phone, named_id, acted_id, acted_action}
use Rattle.executables.proofs.{ActsOnExecutable.Acts, Tells.{verify_tells, request_tells}}
use Rattle.executables.proofs.Untouched.{install_still, delete_still, verify_still, permit_still, request_unchanged}

module _ {l : List ℕ} {e : Event} {i : ℕ} where
  -- it names an id, and an action of the table
  pub delete_asks : Acts 11 e.id l e i → 0 < e.id
  delete_asks a = named_id (decode l) e 11 a.code (id_formed (decode l) (with_kind 11 e))

  pub verify_asks : Acts 12 e.id l e i → 0 < e.id
  verify_asks a = named_id (decode l) e 12 a.code (id_formed (decode l) (with_kind 12 e))

  pub permit_asks : (given : Bool) → Acts (permission_kind given) e.id l e i → (0 < e.id) × (e.second < length (decode l).table)
  permit_asks true a = (acted_id (decode l) e 13 a.code (λ h. h), acted_action (decode l) e 13 a.code (λ h. h))
  permit_asks false a = (acted_id (decode l) e 14 a.code (λ h. h), acted_action (decode l) e 14 a.code (λ h. h))

  -- l' is what is written, and x what is told
  module _ {x : Answer} {l' : List ℕ} where
    pub install_done : Acts 10 0 l e i → x ≡ answer_done 0 0 → l' ≡ encode (install_executable e (decode l)) → Tried l (with_kind 10 e) (Ok x) l'
    unfolding effect install_executable done
    install_done a q w = tried_still a.code (install_still (decode l) (accepted_phone l a.accepted) e) q w

    pub delete_done : Acts 11 e.id l e i → x ≡ answer_done 0 0 → l' ≡ encode (delete_executable e (decode l)) → Tried l (with_kind 11 e) (Ok x) l'
    unfolding effect delete_executable done
    delete_done a q w = tried_still a.code (delete_still (decode l) (accepted_phone l a.accepted) e) q w

    pub verify_done : Acts 12 e.id l e i → {r : Chained} → r ≡ chain_of (decode l).trust (executable_at (decode l) i).signing
        → x ≡ answer_done r.domain r.links → l' ≡ encode (verify e (decode l)) → Tried l (with_kind 12 e) (Ok x) l'
    unfolding effect verify
    verify_done a told q w =
        let ok = accepted_phone l a.accepted in
        tried_still a.code (verify_still (decode l) ok e) (q ∙ verify_tells (decode l) ok e a.place a.within told) w

    pub permit_done : (given : Bool) → Acts (permission_kind given) e.id l e i → x ≡ answer_done 0 0
        → l' ≡ encode (permit (permission_write given) e (decode l)) → Tried l (with_kind (permission_kind given) e) (Ok x) l'
    unfolding effect permit done
    permit_done true a q w = tried_still a.code (permit_still (decode l) (accepted_phone l a.accepted) e true) q w
    permit_done false a q w = tried_still a.code (permit_still (decode l) (accepted_phone l a.accepted) e false) q w

  -- a request leaves the image, which is that of the phone that it says
  pub request_done : Acts 15 e.id l e i → {y : Executable} → y ≡ executable_at (decode l) i → {n : ℕ} → n ≡ links (decode l).trust y.signing y.domain
      → {x : Answer} → x ≡ answer_done y.domain n → Tried l (with_kind 15 e) (Ok x) l
  request_done a read counted q =
      let ok = accepted_phone l a.accepted in
      tried_done a.code (q ∙ request_tells (decode l) ok e a.place read counted)
      (a.accepted.framed.shaped ∙ ap encode (sym (request_unchanged (decode l) ok e)))
