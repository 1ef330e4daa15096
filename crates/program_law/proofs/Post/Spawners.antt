-- An event of a spawner that is due: it takes requests, gives a report, or works.
use Rattle.std.proofs.Common.{◌≡◌, refl, sym, subst}
use Rattle.call_fs.specs.declared.past.NeedData.{NeedData}
use Rattle.call_fs.specs.declared.past.NeedData.TheVariants as needs
use Rattle.call_fs.specs.declared.program.Port.TheVariants as port
use Rattle.program_law.specs.Post.Laws.{IsWork, SpawnersKeep}
use Rattle.program_law.specs.Post.Posts.{Posted, works}
use Rattle.program_law.proofs.Post.Reports.{reports_keep}
use Rattle.program_law.proofs.Post.TakesIn.{takes_in_keep}
use Rattle.program_law.proofs.Post.Works.{works_keep}

pub spawners_keep : SpawnersKeep
spawners_keep event wrote name x P serves due offered = by event.due refl
  where
    by : (d : NeedData) → event.due ≡ d → Posted (works event wrote name x)
    by (needs.Take port.Input) is = takes_in_keep event wrote name x P serves due is (offered is)
    by (needs.Give port.Output text) is = reports_keep event wrote name text x P serves due is
    by d is = works_keep event wrote name x P serves due (subst IsWork (sym is) tt)
