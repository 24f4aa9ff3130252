-- 02, item 2: why an executable has its domain or has none, as a list of lines. Definitions only.
use Rattle.std.specs.Prelude.{ℕ, zero, suc}
use mathlib.Core.{Bool.{Bool, cond, not, ◌&&◌, ◌||◌}, List.{List, [], ◌∷◌, ◌++◌, map, reverse}}
use lib.{Dec.{eqb, ltb}, ListN.length}
use Rattle.records.specs.{Phone.{Trust, Phone, no_certificate}, declared.Certificate.Certificate, declared.Executable.Executable}
use Rattle.rules.specs.{Words.{any, Check, ◌⇒◌, first}, Chains.{present, in_date, serves, good, chain_domain, links}, Codes.executable_named}

-- ---- "in order of id"

-- c goes before m, the one found so far: it passes the test, its id is above n, and m is none or has a higher one
abbrev pub goes_before : (Certificate → Bool) → ℕ → Certificate → Certificate → Bool
goes_before t n c m = t c && ltb n c.id && (eqb m.id 0 || ltb c.id m.id)

-- of the records that pass the test and have an id above n, the one with the lowest; a free slot where there is none
unfoldable pub lowest : (Certificate → Bool) → ℕ → List Certificate → Certificate
lowest t n [] = no_certificate
lowest t n (c ∷ l) = let m = lowest t n l in cond (goes_before t n c m) c m

-- the records that pass and have an id above n, each the lowest above the one before, and no more than k
unfoldable pub by_id : ℕ → (Certificate → Bool) → ℕ → List Certificate → List Certificate
by_id zero t n l = []
by_id (suc k) t n l = let c = lowest t n l in cond (eqb c.id 0) [] (c ∷ by_id k t c.id l)

-- "every record with the signing key, in order of id"
abbrev pub has_key : ℕ → Certificate → Bool
has_key k c = eqb c.key k

unfoldable pub holders : Trust → ℕ → List Certificate
holders t k = by_id (length t.certificates) (has_key k) 0 t.certificates

-- ---- the chain

-- "a shortest chain, at each link the lowest certificate id that serves, chosen from the signer up": n records, the first with the key k
unfoldable pub climb : ℕ → Trust → ℕ → ℕ → List Certificate
climb zero t d k = []
climb (suc n) t d k =
    let c = lowest (serves (good (suc n) t) d k) 0 t.certificates in
    c ∷ climb n t d c.verifying

unfoldable pub chain_told : Trust → ℕ → ℕ → List Certificate
chain_told t d k = climb (links t k d) t d k

-- the domain that an executable chains to, and 0 where there is none, and its chain, signer first
abbrev pub its_domain : Trust → Executable → ℕ
its_domain t x = chain_domain t x.signing

abbrev pub its_chain : Trust → Executable → List Certificate
its_chain t x = chain_told t (its_domain t x) x.signing

-- ---- what is said of a record, as a number

abbrev pub said_link : ℕ
said_link = 1

abbrev pub said_unsigned : ℕ
said_unsigned = 2

abbrev pub said_unheld : ℕ
said_unheld = 3

abbrev pub said_untrusted : ℕ
said_untrusted = 4

-- a reason is 10 or above
abbrev pub said_recovery : ℕ
said_recovery = 10

abbrev pub said_absent : ℕ
said_absent = 11

abbrev pub said_invalid : ℕ
said_invalid = 12

abbrev pub said_disabled : ℕ
said_disabled = 13

abbrev pub said_past : ℕ
said_past = 14

abbrev pub said_unserved : ℕ
said_unserved = 15

-- ---- the reasons

-- some record of the same domain with its verifying key is good within three links
abbrev pub signed : Trust → Certificate → Bool
signed t c = any (serves (good 3 t) c.domain c.verifying) t.certificates

-- "the first true reason of these: on an absent card; marked invalid; disabled; past its date; no good signer within three links"
-- 02, item 4, of a recovery record: "never a trusted root and never a link, and for Item 2 that is a reason before the others"
abbrev pub reasons : Trust → Certificate → List Check
reasons t c =
    (eqb c.kind 2 ⇒ said_recovery)
    ∷ (not (present t.seen c) ⇒ said_absent)
    ∷ (eqb c.mark 0 ⇒ said_invalid)
    ∷ (eqb c.enabled 0 ⇒ said_disabled)
    ∷ (not (in_date t.seen.clock c) ⇒ said_past)
    ∷ (not (signed t c) ⇒ said_unserved)
    ∷ []

unfoldable pub reason : Trust → Certificate → ℕ
reason t c = first (reasons t c)

-- ---- the lines

-- what is said, and the id of the record of which it is said
pub record Line : Type 0 where
  pub what : ℕ
  pub id : ℕ

abbrev pub line : ℕ → ℕ → Line
line w n = record { what = w; id = n }

-- of a certificate: a link of the chain, or why it is not good
abbrev pub link_line : Certificate → Line
link_line c = line said_link c.id

abbrev pub reason_line : Trust → Certificate → Line
reason_line t c = line (reason t c) c.id

-- of an executable
abbrev pub unsigned_line : Executable → Line
unsigned_line x = line said_unsigned x.id

abbrev pub unheld_line : Executable → Line
unheld_line x = line said_unheld x.id

abbrev pub untrusted_line : Executable → Line
untrusted_line x = line said_untrusted x.id

-- ---- the whole

-- "If that chains to a domain", an "unsigned executable", "one whose key nobody holds"
unfoldable pub chained : Trust → Executable → Bool
chained t x = not (eqb (its_domain t x) 0)

unfoldable pub unsigned : Executable → Bool
unsigned x = eqb x.signing 0

unfoldable pub held : Trust → Executable → Bool
held t x = any (has_key x.signing) t.certificates

-- "one in domain 0 despite a chain"
unfoldable pub despite : Executable → List Line
despite x = cond (eqb x.domain 0) (untrusted_line x ∷ []) []

-- "it prints a shortest chain .. printed root first", and "the last after its chain"
abbrev pub chain_lines : Trust → Executable → List Line
chain_lines t x = map link_line (reverse (its_chain t x)) ++ despite x

-- "for every record with the signing key, in order of id, the first true reason"
abbrev pub reason_lines : Trust → Executable → List Line
reason_lines t x = map (reason_line t) (holders t x.signing)

-- "An unsigned executable, one whose key nobody holds, and one in domain 0 despite a chain have a line each"
unfoldable pub explained : Trust → Executable → List Line
explained t x =
    cond (chained t x) (chain_lines t x)
    (cond (unsigned x) (unsigned_line x ∷ [])
    (cond (not (held t x)) (unheld_line x ∷ [])
    (reason_lines t x)))

unfoldable pub explanation : Phone → ℕ → List Line
explanation p n = explained p.trust (executable_named p n)
