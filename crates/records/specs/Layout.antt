-- What the bytes of a record mean, and the bytes of a record. Definitions only.
use Rattle.std.specs.Prelude.{ℕ, ◌+◌, List, ◌++◌, get_or}
use Rattle.octets.specs.Octets.{be8, be16, be32, bytes}
use Rattle.records.specs.{declared.Certificate.Certificate, declared.Card.Card, declared.Executable.Executable, declared.Row.Row, declared.Event.Event}

-- "u16 id, u16 place, u8 kind, u8 domain, u8 mark and u8 enabled, u32 key, verifying key, owner, expiry": the certificate whose first byte is at a
abbrev pub certificate_read : List ℕ → ℕ → Certificate
certificate_read l a =
    record {
      id = be16 l (a + 0);
      place = be16 l (a + 2);
      kind = be8 l (a + 4);
      domain = be8 l (a + 5);
      mark = be8 l (a + 6);
      enabled = be8 l (a + 7);
      key = be32 l (a + 8);
      verifying = be32 l (a + 12);
      owner = be32 l (a + 16);
      expiry = be32 l (a + 20);
    }

-- its small fields, which take the first 8 bytes, and then its words
abbrev pub certificate_small : Certificate → List ℕ
certificate_small c =
    bytes 2 c.id ++ (bytes 2 c.place ++ (bytes 1 c.kind ++ (bytes 1 c.domain ++ (bytes 1 c.mark ++ bytes 1 c.enabled))))

abbrev pub certificate_words : Certificate → List ℕ
certificate_words c = bytes 4 c.key ++ (bytes 4 c.verifying ++ (bytes 4 c.owner ++ bytes 4 c.expiry))

abbrev pub certificate_bytes : Certificate → List ℕ
certificate_bytes c = certificate_small c ++ certificate_words c

-- "u16 number (not 0, distinct), u16 zero, u32 operator"
abbrev pub card_read : List ℕ → ℕ → Card
card_read l a = record { number = be16 l (a + 0); blank = be16 l (a + 2); operator = be32 l (a + 4) }

abbrev pub card_bytes : Card → List ℕ
card_bytes c = bytes 2 c.number ++ (bytes 2 c.blank ++ bytes 4 c.operator)

-- "u16 id, u8 domain 0..3, u8 zero, u32 signing key (0 = unsigned), u32 user permissions"
abbrev pub executable_read : List ℕ → ℕ → Executable
executable_read l a =
    record { id = be16 l (a + 0); domain = be8 l (a + 2); blank = be8 l (a + 3); signing = be32 l (a + 4); permissions = be32 l (a + 8) }

abbrev pub executable_bytes : Executable → List ℕ
executable_bytes x =
    bytes 2 x.id ++ (bytes 1 x.domain ++ (bytes 1 x.blank ++ (bytes 4 x.signing ++ bytes 4 x.permissions)))

-- "for each action four bytes, for domains 0, 1, 2, 3"
abbrev pub row_read : List ℕ → ℕ → Row
row_read l a =
    record { untrusted = be8 l (a + 0); operator = be8 l (a + 1); manufacturer = be8 l (a + 2); third = be8 l (a + 3) }

abbrev pub row_bytes : Row → List ℕ
row_bytes r = bytes 1 r.untrusted ++ (bytes 1 r.operator ++ (bytes 1 r.manufacturer ++ bytes 1 r.third))

-- a row's byte for domain d
abbrev pub row_byte : Row → ℕ → ℕ
row_byte r d = get_or (row_bytes r) d 0

-- "u8 kind, u8 actor, u16 id, u16 second, u8 third, u8 fourth, then four u32 (key, verifying key, owner, expiry)"
abbrev pub event_read : List ℕ → ℕ → Event
event_read l a =
    record {
      kind = be8 l (a + 0);
      actor = be8 l (a + 1);
      id = be16 l (a + 2);
      second = be16 l (a + 4);
      third = be8 l (a + 6);
      fourth = be8 l (a + 7);
      key = be32 l (a + 8);
      verifying = be32 l (a + 12);
      owner = be32 l (a + 16);
      expiry = be32 l (a + 20);
    }

abbrev pub event_bytes : Event → List ℕ
event_bytes e =
    bytes 1 e.kind ++ (bytes 1 e.actor ++ (bytes 2 e.id ++ (bytes 2 e.second ++ (bytes 1 e.third ++ (bytes 1 e.fourth
    ++ (bytes 4 e.key ++ (bytes 4 e.verifying ++ (bytes 4 e.owner ++ bytes 4 e.expiry))))))))
