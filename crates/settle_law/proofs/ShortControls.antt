-- How long what the control files say may be.
use Rattle.std.proofs.Common.{◌≡◌, ⊎_elim, ℕ, suc, ◌+◌, ◌<◌, ◌≤◌, List, [], ◌∷◌, length, get_or, set, Bool, true, false, ◌&&◌, if◌then◌else◌, ◌==◌, Option, Some, None, refl, ap, ◌∙◌, subst, arith, codes}
use Rattle.std.specs.Prelude.{All, slice_get, unwrap_or}
use Rattle.std.specs.List.{list_all}
use Rattle.std.specs.Option.{option_map}
use Rattle.std.proofs.lemmas.Bool.{cases_lt, leb-true}
use Rattle.std.proofs.lemmas.List.{length-append}
use Rattle.std.proofs.lemmas.List.Elements.{All-nil, All-head, All-from_get_or}
use Rattle.std.proofs.lemmas.Option.{slice_get-get_or}
use Rattle.address_rules.specs.declared.control_file.ControlFile.{ControlFile}
use Rattle.address_rules.specs.declared.control_file.ControlFile.TheVariants.{Me, VirtualDomains, EnvNoAtHost, DoubleBounceTo, DoubleBounceHost, QueueLifetime}
use Rattle.address_rules.specs.declared.controls.Controls.{Controls}
use Rattle.address_rules.specs.declared.virtual_domains.VirtualDomain.{VirtualDomain}
use Rattle.address_rules.specs.Cuts.{Parts, first_cut}
use Rattle.address_rules.specs.Files.{Fault, IsFaulty, content, place, controls_of, first_fault, kind, line_limit, me_of, text_in, virtual_domains_in}
use Rattle.address_rules.specs.Files.HasFault.{LineTooLong}
use Rattle.address_rules.specs.Lines.{is_kept, kept_line, lines, listed, value_of, virtual_domain, virtual_of}
use Rattle.address_rules.proofs.ByteCuts.{first_cut_is}
use Rattle.address_rules.proofs.FaultLaws.{none_to}
use Rattle.address_rules.proofs.Nuls.{all_kept}
use Rattle.call_fs.specs.declared.calls.Answer.{Answer}
use Rattle.call_fs.specs.declared.calls.Answer.TheVariants as answer
use Rattle.call_fs.specs.declared.calls.CallData.{CallData}
use Rattle.call_fs.specs.declared.calls.CallData.TheVariants as call
use Rattle.call_fs.specs.declared.calls.Fd.{Fd}
use Rattle.call_fs.specs.declared.calls.FsError.TheVariants as why
use Rattle.call_fs.specs.declared.calls.How.TheVariants as how
use Rattle.call_fs.specs.declared.calls.Told.{Told as Answered}
use Rattle.call_fs.specs.declared.past.GotData.{GotData}
use Rattle.call_fs.specs.declared.past.GotData.TheVariants as came
use Rattle.call_fs.specs.declared.past.NeedData.{NeedData}
use Rattle.call_fs.specs.declared.past.NeedData.TheVariants as needs
use Rattle.call_fs.specs.declared.past.Own.{Own}
use Rattle.mail_bytes.specs.Texts.{is_blank, trimmed}
use Rattle.send_core.specs.Papers.{Paper, Papers, closed_paper, control_named, filed, filed_if, filed_last, judged, opened_file, opened_paper, papers, papers_by, papers_on}
use Rattle.send_core.specs.Papers.Papers.{Reads, Told}

-- at most 400 bytes of a name or a host, and 1,000 of a prefix
abbrev pub HasShortPrefix : VirtualDomain → Type 0
HasShortPrefix line = length line.prefix ≤ 1000

pub record AreShort (controls : Controls) : Type 0 where
  pub host : length controls.env_no_at_host ≤ 400
  pub double_to : length controls.double_bounce_to ≤ 400
  pub double_host : length controls.double_bounce_host ≤ 400
  pub prefixes : All HasShortPrefix controls.virtual_domains

-- Lines

abbrev IsLow : ℕ → List ℕ → Type 0
IsLow most text = length text ≤ most

trimmed_if : (t : Bool) (b : ℕ) (rest kept : List ℕ) → length kept ≤ length rest → length (if t then [] else b ∷ kept) ≤ length (b ∷ rest)
trimmed_if true b rest kept low = omega arith
trimmed_if false b rest kept low = omega (arith, low)

trimmed_short : (line : List ℕ) → length (trimmed line) ≤ length line
trimmed_short [] = omega arith
trimmed_short (b ∷ rest) = trimmed_if (list_all is_blank (b ∷ rest)) b rest (trimmed rest) (trimmed_short rest)

at_most : (most : ℕ) (line : List ℕ) → IsLow most line → IsLow most (trimmed line)
at_most most line low = let less = trimmed_short line in omega (arith, low, less)

first_short : (most : ℕ) (texts : List (List ℕ)) → All (IsLow most) texts → IsLow most (unwrap_or (slice_get texts 0) [])
first_short most [] h = omega arith
first_short most (text ∷ texts) h = All-head (IsLow most) text texts h

value_short : (most : ℕ) (bytes : List ℕ) → All (IsLow most) (lines bytes) → IsLow most (value_of bytes)
value_short most bytes h = at_most most (unwrap_or (slice_get (lines bytes) 0) []) (first_short most (lines bytes) h)

if_some : (t : Bool) (a b : List ℕ) → ◌≡◌ {A = Option (List ℕ)} (if t then Some a else None) (Some b) → a ≡ b
if_some true a b e = cc
if_some false a b e = absurd (cc)

kept_short : (line text : List ℕ) → IsLow 1000 line → kept_line line ≡ Some text → IsLow 1000 text
kept_short line text h e = subst (IsLow 1000) (if_some (is_kept (trimmed line)) (trimmed line) text e) (at_most 1000 line h)

one_domain : (a b : VirtualDomain) → ◌≡◌ {A = Option VirtualDomain} (Some a) (Some b) → a ≡ b
one_domain a b e = cc

domain_by : (line : List ℕ) (it : VirtualDomain) → IsLow 1000 line → (o : Option Parts) → first_cut 58 line ≡ o → option_map virtual_domain o ≡ Some it → HasShortPrefix it
domain_by line it h None is e = absurd (cc)
domain_by line it h (Some parts) is e =
    let cut = first_cut_is 58 line parts is in
    let long : length line ≡ length parts.0 + length (58 ∷ parts.1) = ap length cut.split ∙ length-append parts.0 (58 ∷ parts.1) in
    let low : length parts.1 ≤ 1000 = omega (arith, long, h) in
    subst HasShortPrefix (one_domain (virtual_domain parts) it e) low

domain_short : (line : List ℕ) (it : VirtualDomain) → IsLow 1000 line → virtual_of line ≡ Some it → HasShortPrefix it
domain_short line it h e = domain_by line it h (first_cut 58 line) refl e

-- Files without a fault

module _ (files : List (Option (List ℕ))) (sound : (file : ControlFile) → ¬ (IsFaulty files file)) where
  lines_short : (file : ControlFile) (bytes : List ℕ) → content files file ≡ Some bytes → All (IsLow (line_limit (kind file))) (lines bytes)
  lines_short file bytes there = All-from_get_or (IsLow (line_limit (kind file))) (lines bytes) [] (λ i inside. ⊎_elim
      (λ (long : line_limit (kind file) < length (get_or (lines bytes) i [])).
      absurd (sound file (bytes, there, (suc i, LineTooLong (get_or (lines bytes) i []) i (slice_get-get_or (lines bytes) i [] inside) long refl))))
      (λ (low : length (get_or (lines bytes) i []) ≤ line_limit (kind file)). low)
      (cases_lt (line_limit (kind file)) (length (get_or (lines bytes) i []))))

  host_by : (file : ControlFile) (default : List ℕ) → line_limit (kind file) ≡ 400 → IsLow 400 default → (o : Option (List ℕ)) → content files file ≡ o → IsLow 400 (text_in o default)
  host_by file default at_most_so h None is = h
  host_by file default at_most_so h (Some bytes) is = value_short 400 bytes (subst (λ (most : ℕ). All (IsLow most) (lines bytes)) at_most_so (lines_short file bytes is))

  me_short : IsLow 400 (me_of files)
  me_short = host_by Me (codes "localhost") refl (leb-true (length (codes "localhost")) 400 refl) (content files Me) refl

  domains_by : (o : Option (List ℕ)) → content files VirtualDomains ≡ o → All HasShortPrefix (virtual_domains_in o)
  domains_by None is = All-nil HasShortPrefix
  domains_by (Some bytes) is =
      all_kept (IsLow 1000) HasShortPrefix virtual_of domain_short (listed bytes)
      (all_kept (IsLow 1000) (IsLow 1000) kept_line kept_short (lines bytes) (lines_short VirtualDomains bytes is))

controls_short : (files : List (Option (List ℕ))) → first_fault files ≡ None → AreShort (controls_of files)
unfolding controls_of
controls_short files e =
    let sound = none_to files e in
    record {
      host = host_by files sound EnvNoAtHost (me_of files) refl (me_short files sound) (content files EnvNoAtHost) refl;
      double_to = host_by files sound DoubleBounceTo (codes "postmaster") refl (leb-true (length (codes "postmaster")) 400 refl) (content files DoubleBounceTo) refl;
      double_host = host_by files sound DoubleBounceHost (me_of files) refl (me_short files sound) (content files DoubleBounceHost) refl;
      prefixes = domains_by files sound (content files VirtualDomains) refl;
    }

-- So it is of what a sender was told: all files were read, and none is bad

abbrev Says : Papers → Type 0
Says (Told controls) = AreShort controls
Says (Reads files held) = Unit {0}

judged_so : (o : Option Fault) (files : List (Option (List ℕ))) → first_fault files ≡ o → Says (judged o files)
judged_so None files is = controls_short files is
judged_so (Some fault) files is = tt

filed_last_so : (file : ControlFile) (files : List (Option (List ℕ))) → Says (filed_last file files)
filed_last_so QueueLifetime files = judged_so (first_fault files) files refl
filed_last_so file files = tt

filed_so : (file : ControlFile) (content : Option (List ℕ)) (files : List (Option (List ℕ))) → Says (filed file content files)
filed_so file content files = filed_last_so file (set files (place file) content)

opened_so : (file : ControlFile) (told : Answer) (files : List (Option (List ℕ))) → Says (opened_file file told files)
opened_so file (answer.Opened fd) files = tt
opened_so file (answer.Refused why.NotThere) files = filed_so file None files
opened_so file told files = tt

named_so : (o : Option ControlFile) (told : Answer) (files : List (Option (List ℕ))) → Says (opened_paper o told files)
named_so None told files = tt
named_so (Some file) told files = opened_so file told files

filed_if_so : (t : Bool) (s : Paper) (files : List (Option (List ℕ))) → Says (filed_if t s files)
filed_if_so true s files = filed_so s.file (Some s.bytes) files
filed_if_so false s files = tt

closed_so : (o : Option Paper) (fd : Fd) (files : List (Option (List ℕ))) → Says (closed_paper o fd files)
closed_so None fd files = tt
closed_so (Some s) fd files = filed_if_so ((fd.0 == s.fd.0) && s.over) s files

called_so : (c : CallData) (told : Answered) (files : List (Option (List ℕ))) (held : Option Paper) → Says (papers_on c told files held)
called_so (call.Open name how.Read) told files held = named_so (control_named name) told.answer files
called_so (call.ReadAt fd at len) told files held = tt
called_so (call.Close fd) told files held = closed_so held fd files
called_so c told files held = tt

event_so : (p : Papers) (due : NeedData) (got : GotData) → Says p → Says (papers_by p due got)
event_so (Told controls) due got h = h
event_so (Reads files held) (needs.File c) (came.Answered told) h = called_so c told files held
event_so (Reads files held) due got h = tt

papers_so : (past : List Own) → Says (papers past)
papers_so [] = tt
papers_so (own ∷ past) = event_so (papers past) own.due own.came (papers_so past)

pub told_short : (past : List Own) (controls : Controls) → papers past ≡ Told controls → AreShort controls
told_short past controls is = subst Says is (papers_so past)
