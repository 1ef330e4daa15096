-- The names of a drop (maildir(5)).
use Rattle.std.specs.Prelude.{ℕ, List, [], ◌∷◌, ◌++◌, length, Bool, ◌&&◌, not, ◌==◌, nat_lt, codes}
use Rattle.std.specs.List.{list_all, list_any, slice_split}
use Rattle.mail_bytes.specs.Decimal.{digits}
use Rattle.call_fs.specs.Names.{without_slash}
use Rattle.maildir_drop.specs.declared.arguments.Arguments.{Arguments}
use Rattle.maildir_drop.specs.declared.names.DropNames.{DropNames}
use Rattle.maildir_drop.specs.declared.names.NamePair.{NamePair}
use Rattle.maildir_drop.specs.declared.row.Attempt.{Attempt}
use Rattle.maildir_drop.specs.declared.row.Attempt.TheVariants.{First, Second, Third}

-- what comes after the process number
abbrev pub mark : Attempt → List ℕ
mark First = []
mark Second = codes "_1"
mark Third = codes "_2"

-- `TIME.PID.HOST`, then `TIME.PID_1.HOST` and `TIME.PID_2.HOST`
abbrev pub file_name : ℕ → ℕ → List ℕ → Attempt → List ℕ
file_name moment pid host attempt = digits moment ++ (46 ∷ (digits pid ++ (mark attempt ++ (46 ∷ host))))

abbrev pub dir_name : List ℕ → List ℕ → List ℕ → List ℕ
dir_name dir part name = dir ++ (part ++ name)

-- in `tmp` and in `new`
abbrev pub pair : List ℕ → ℕ → ℕ → List ℕ → Attempt → NamePair
pair dir moment pid host attempt = record {
  tmp = dir_name dir (codes "tmp/") (file_name moment pid host attempt);
  new = dir_name dir (codes "new/") (file_name moment pid host attempt);
}

abbrev pub names_of : Arguments → DropNames
names_of args = record {
  first = pair args.dir args.moment args.pid args.host First;
  second = pair args.dir args.moment args.pid args.host Second;
  third = pair args.dir args.moment args.pid args.host Third;
}

abbrev pub pair_at : DropNames → Attempt → NamePair
pair_at names First = names.first
pair_at names Second = names.second
pair_at names Third = names.third

-- The form of a file's name, as a test: the law `names_are_of_the_form` says that it is that of `CallFs`.
abbrev pub is_part : List ℕ → Bool
is_part part = (nat_lt 0 (length part) && nat_lt (length part) 256) && not (list_any (λ b. b == 0) part)

unfoldable pub is_name : List ℕ → Bool
is_name name = list_all is_part (slice_split (λ b. b == 47) (without_slash name))
