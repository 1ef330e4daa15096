-- The lines that a local delivery puts before a message (qmail-local(8)).
use Rattle.std.specs.Prelude.{ℕ, List, [], ◌∷◌, ◌++◌, map, if◌then◌else◌, ◌==◌, codes}
use Rattle.local_parts.specs.declared.arguments.LocalArgs.{LocalArgs}

-- a byte of an address as it stands in a line: a newline as `_`
abbrev pub line_byte : ℕ → ℕ
line_byte b = if b == 10 then 95 else b

abbrev pub in_line : List ℕ → List ℕ
in_line text = map line_byte text

-- `Delivered-To: LOCAL@DOMAIN`
abbrev pub delivered_to : LocalArgs → List ℕ
delivered_to args = codes "Delivered-To: " ++ (in_line args.local ++ 64 ∷ in_line args.domain)

-- `Return-Path: <SENDER>`
abbrev pub return_path : LocalArgs → List ℕ
return_path args = codes "Return-Path: <" ++ (in_line args.sender ++ codes ">")

abbrev pub delivered_line : LocalArgs → List ℕ
delivered_line args = delivered_to args ++ 10 ∷ []

abbrev pub return_line : LocalArgs → List ℕ
return_line args = return_path args ++ 10 ∷ []

-- the file of a maildir
abbrev pub maildir_text : LocalArgs → List ℕ → List ℕ
maildir_text args message = return_line args ++ (delivered_line args ++ message)

-- the message of a forward, which has no Return-Path
abbrev pub forward_text : LocalArgs → List ℕ → List ℕ
forward_text args message = delivered_line args ++ message
