-- A line of users/assign (qmail-users(5)): `=LOCAL:USER:UID:GID:HOME:DASH:EXT:`, or with `+` and how local parts begin.
use Rattle.std.specs.Prelude.{◌≢◌, ℕ, ◌<◌, ◌^◌, List, [], ◌∷◌, ◌++◌, All, Option, Some, None, if◌then◌else◌, ◌==◌, nat_lt}
use Rattle.std.specs.List.{slice_split}
use Rattle.std.specs.Option.{option_and_then}
use Rattle.mail_bytes.specs.Decimal.{digits, number_of}
use Rattle.local_spawn.specs.declared.assign.Assignment.{Assignment}
use Rattle.local_spawn.specs.declared.kinds.Kind.{Kind}
use Rattle.local_spawn.specs.declared.kinds.Kind.TheVariants.{Simple, Wildcard}
use Rattle.local_spawn.specs.declared.reading.Fields.{Fields}

abbrev pub sign_of : Kind → ℕ
sign_of Simple = 61
sign_of Wildcard = 43

-- a field, its colon, and what comes after
abbrev pub field : List ℕ → List ℕ → List ℕ
field text rest = text ++ 58 ∷ rest

-- The line of an assignment, without its newline: `=joe:joe:507:50:/home/joe:::` is that of one local part.
abbrev pub line_of : Assignment → List ℕ
line_of a =
    sign_of a.kind ∷ field a.local (field a.user (field (digits a.uid) (field (digits a.gid) (field a.home (field a.dash (field a.ext []))))))

-- neither colon nor newline
abbrev pub IsField : List ℕ → Type 0
IsField text = All (λ b. (b ≢ 58) × (b ≢ 10)) text

-- an assignment that a line can have
pub record IsAssignment (a : Assignment) : Type 0 where
  pub local : IsField a.local
  pub user : IsField a.user
  pub uid : a.uid < 2 ^ 32
  pub gid : a.gid < 2 ^ 32
  pub home : IsField a.home
  pub dash : IsField a.dash
  pub ext : IsField a.ext

-- How a line is read: by its pieces between colons, which are eight, the last one empty

abbrev pub kind_of : ℕ → Option Kind
kind_of sign = if sign == 61 then Some Simple else (if sign == 43 then Some Wildcard else None)

abbrev pub if_u32 : ℕ → Option ℕ
if_u32 n = if nat_lt n (2 ^ 32) then Some n else None

abbrev pub number_in : List ℕ → Option ℕ
number_in text = option_and_then if_u32 (number_of text)

abbrev pub assigned : Option Kind → List ℕ → List ℕ → Option ℕ → Option ℕ → List ℕ → List ℕ → List ℕ → Option Assignment
assigned (Some kind) local user (Some uid) (Some gid) home dash ext =
    Some (record { kind = kind; local = local; user = user; uid = uid; gid = gid; home = home; dash = dash; ext = ext })
assigned _ local user _ _ home dash ext = None

abbrev pub parsed_fields : List ℕ → List ℕ → List ℕ → List ℕ → List ℕ → List ℕ → List ℕ → Option Assignment
parsed_fields [] user uid gid home dash ext = None
parsed_fields (sign ∷ local) user uid gid home dash ext = assigned (kind_of sign) local user (number_in uid) (number_in gid) home dash ext

abbrev pub parsed_by : List (List ℕ) → Option Assignment
parsed_by (first ∷ user ∷ uid ∷ gid ∷ home ∷ dash ∷ ext ∷ [] ∷ []) = parsed_fields first user uid gid home dash ext
parsed_by _ = None

abbrev pub parsed : List ℕ → Option Assignment
parsed line = parsed_by (slice_split (λ b. b == 58) line)

-- fields that are lent
abbrev pub assignment_of : Fields → Assignment
assignment_of f = record {
  kind = f.kind;
  local = f.local.now;
  user = f.user.now;
  uid = f.uid;
  gid = f.gid;
  home = f.home.now;
  dash = f.dash.now;
  ext = f.ext.now;
}

abbrev pub said : Option Fields → Option Assignment
said None = None
said (Some f) = Some (assignment_of f)
