-- The image rules I2 to I8 as propositions: what the tests of specs/ImageRules.antt are worth. Definitions only; `Accepts` joins the two.
use Prim.Native.Nat.{ℕ, ◌≤◌, ◌<◌, ◌^◌}
use mathlib.Core.{List.{List, map, Memᴰ}, Logic.{◌≢◌, ◌⊎◌}, Path.◌≡◌}
use lib.{Dec.T, ListN.length}
use Rattle.records.specs.{Phone.{Seen, Trust, Phone, no_certificate, no_executable}, declared.Certificate.Certificate, declared.Card.Card}
use Rattle.records.specs.{declared.Executable.Executable, declared.Row.Row}
use Rattle.rules.specs.{Words.distinct, Chains.chains_to, ImageRules.{known_place, operator_of, valid_in, row_fits}}

-- I2, an occupied slot
pub record Occupied (c : Certificate) : Type 0 where
  pub id : c.id ≢ 0
  pub key : c.key ≢ 0
  pub kind : c.kind ≤ 2
  pub domain : (1 ≤ c.domain) × (c.domain ≤ 3)
  pub mark : c.mark ≤ 1
  pub enabled : c.enabled ≤ 1
  pub root : c.kind ≡ 0 → (c.verifying ≡ 0) × (c.domain ≡ 2 → c.place ≡ 0) × (c.domain ≢ 3 → c.enabled ≡ 1)
  pub issued : c.kind ≡ 1 → (c.verifying ≢ 0) × (c.mark ≡ 1) × (c.enabled ≡ 1)
  pub recovery : c.kind ≡ 2 → (c.place ≡ 0) × (c.domain ≤ 2) × (c.verifying ≡ 0) × (c.mark ≡ 0) × (c.enabled ≡ 1)

-- I2 to I4, of the certificate slots
pub record Held (cards : List Card) (l : List Certificate) : Type 0 where
  pub slots : (c : Certificate) → Memᴰ c l → (c ≡ no_certificate) ⊎ Occupied c
  pub places : (c : Certificate) → Memᴰ c l → T (known_place cards c.place)
  pub ids : T (distinct (map (λ c. c.id) l))
  pub keys : (c e : Certificate) → Memᴰ c l → Memᴰ e l → c.key ≢ 0 → c.key ≡ e.key → c.domain ≡ e.domain
  pub owners : (c : Certificate) → Memᴰ c l → c.kind ≡ 0 → c.domain ≡ 1 → c.place ≢ 0 → c.owner ≡ operator_of cards c.place

-- a valid root of domain d at this time
abbrev pub Valid : ℕ → ℕ → Certificate → Type 0
Valid d clock c = T (valid_in d clock c)

-- I5, where it says "at most one": of each place an operator root, and a manufacturer root; it looks at no card
pub record Single (clock : ℕ) (l : List Certificate) : Type 0 where
  pub one_each : (c e : Certificate) → Memᴰ c l → Memᴰ e l → Valid 1 clock c → Valid 1 clock e → c.place ≡ e.place → c.id ≡ e.id
  pub one_maker : (c e : Certificate) → Memᴰ c l → Memᴰ e l → Valid 2 clock c → Valid 2 clock e → c.id ≡ e.id

-- and where it says that the operator root on the phone yields to the card that is present
pub record Yielding (cards : List Card) (seen : Seen) (l : List Certificate) : Type 0 where
  pub not_both : (c e : Certificate) → Memᴰ c l → Memᴰ e l → Valid 1 seen.clock c → Valid 1 seen.clock e
      → c.place ≡ 0 → e.place ≡ seen.card → seen.card ≡ 0
  pub mine : (c : Certificate) → Memᴰ c l → Valid 1 seen.clock c → c.place ≡ 0 → seen.card ≢ 0 → c.owner ≡ operator_of cards seen.card

-- I2 to I5, with the card that is present
pub record Kept (cards : List Card) (t : Trust) : Type 0 where
  pub card : T (known_place cards t.seen.card)
  pub held : Held cards t.certificates
  pub single : Single t.seen.clock t.certificates
  pub yielding : Yielding cards t.seen t.certificates

-- I3, of one card
pub record Named (k : Card) : Type 0 where
  pub number : k.number ≢ 0
  pub blank : k.blank ≡ 0

-- I7, an occupied slot
pub record Stored (actions : ℕ) (x : Executable) : Type 0 where
  pub id : x.id ≢ 0
  pub domain : x.domain ≤ 3
  pub blank : x.blank ≡ 0
  pub permissions : x.permissions < 2 ^ actions

pub record Accepted (p : Phone) : Type 0 where
  pub cards : (k : Card) → Memᴰ k p.cards → Named k
  pub numbers : T (distinct (map (λ k. k.number) p.cards))
  pub trust : Kept p.cards p.trust
  pub table : (r : Row) → Memᴰ r p.table → T (row_fits r)
  pub executables : (x : Executable) → Memᴰ x p.executables → (x ≡ no_executable) ⊎ Stored (length p.table) x
  pub ids : T (distinct (map (λ x. x.id) p.executables))
  pub chained : (x : Executable) → Memᴰ x p.executables → x.domain ≢ 0 → T (chains_to p.trust x.signing x.domain)
