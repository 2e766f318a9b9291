-- When all is there that a command asks for, so that nothing but a fault or want of memory is in its way.
use Rattle.std.specs.Prelude.{◌≡◌, ℕ, List, Option, Some, Result, Ok, Err}
use Rattle.wdf_io.specs.Files.{Files}
use Rattle.wdf_wav.specs.declared.head.Head.{Head}
use Rattle.wdf_cert.specs.declared.certs.Certs.{Certs}
use Rattle.wdf_lattice.specs.declared.networks.Networks.{Networks}
use Rattle.wdf_design.specs.Designs.{IsDesigned}
use Rattle.wdf_made.specs.Ladder.{made_netlist}
use Rattle.wdf_soak.specs.Soaks.{usual_plan}
use Rattle.wdf_certificates.specs.Certifying.{IsCertified}
use Rattle.wdf_certificates.specs.CertLoading.{LoadsCerts}
use Rattle.wdf_certificates.specs.CertChecking.{CertifiesEach}
use Rattle.wdf_stages.specs.declared.plan_bounds.PlanBounds.{PlanBounds}
use Rattle.wdf_stages.specs.Opening.{Opens}
use Rattle.wdf_stages.specs.Bounding.{AreBounded}
use Rattle.wdf_frames.specs.Ends.{EndsWhole}
use Rattle.wdf_words.specs.declared.command.Command.{Command}
use Rattle.wdf_words.specs.declared.command.Command.TheVariants.{Run, Report, Certify, Check, Soak}
use Rattle.wdf_words.specs.declared.order.Order.{Order}
use Rattle.wdf_words.specs.declared.usage_fault.UsageFault.{UsageFault}
use Rattle.wdf_words.specs.Orders.{order_of}
use Rattle.wdf.specs.declared.designed.Designed.{Designed}
use Rattle.wdf.specs.NetworksAnswer.{HasNetworks, name_of}
use Rattle.wdf.specs.ReportAnswer.{report_plan}
use Rattle.wdf.specs.RunAnswer.{terms_for, plan_in, setting_for}

-- the shelf tells its files, and the one that the words name stands for a netlist with networks
pub record FindsNetworks (words : List (List ℕ)) (told : Option Files) (o : Order) : Type 0 where
  pub files : Files
  pub tells : told ≡ Some files
  pub design : Designed
  pub networks : HasNetworks (Some files) words o design

-- for `certify`: each network has a certificate
pub record CanCertify (words : List (List ℕ)) (told : Option Files) (o : Order) : Type 0 where
  pub finds : FindsNetworks words told o
  pub text : List ℕ
  pub certified : IsCertified finds.design.networks text

-- for `check`: the other file holds a certificate of each network
pub record CanCheck (words : List (List ℕ)) (told : Option Files) (o : Order) : Type 0 where
  pub finds : FindsNetworks words told o
  pub certs : Certs
  pub loads : LoadsCerts (Some finds.files) (name_of words o.cert) certs
  pub certified : CertifiesEach finds.design.networks certs.first certs.second

-- for `report`: the plan fits them
pub record CanReport (words : List (List ℕ)) (told : Option Files) (o : Order) : Type 0 where
  pub finds : FindsNetworks words told o
  pub bounds : PlanBounds
  pub bounded : AreBounded finds.design.networks (report_plan o) bounds

-- for `soak`: the ladder that is made has networks, and the plan of a run that no operand changes fits them
pub record CanSoak (o : Order) : Type 0 where
  pub networks : Networks
  pub designed : IsDesigned (made_netlist o.seed o.order) usual_plan.k networks
  pub bounds : PlanBounds
  pub bounded : AreBounded networks usual_plan bounds

-- for `run`: the input is told, begins with the head of a wave for the networks, whose plan fits them, and holds all of
-- its frames, with no sample over amp
pub record CanRun (words : List (List ℕ)) (told : Option Files) (left : Option (List ℕ)) (o : Order) : Type 0 where
  pub finds : FindsNetworks words told o
  pub bytes : List ℕ
  pub input : left ≡ Some bytes
  pub head : Head
  pub rest : List ℕ
  pub opens : Opens (terms_for o finds.design) (Some bytes) (Some rest) head
  pub bounds : PlanBounds
  pub bounded : AreBounded finds.design.networks (plan_in o head) bounds
  pub ends : EndsWhole (setting_for o finds.design head) rest

-- by the command
abbrev pub CanDo : Command → List (List ℕ) → Option Files → (left : Option (List ℕ)) → Order → Type 0
CanDo Run words told left o = CanRun words told left o
CanDo Certify words told left o = CanCertify words told o
CanDo Check words told left o = CanCheck words told o
CanDo Report words told left o = CanReport words told o
CanDo Soak words told left o = CanSoak o

abbrev pub CanDoWords : Result Order UsageFault → List (List ℕ) → Option Files → (left : Option (List ℕ)) → Type 0
CanDoWords (Ok o) words told left = CanDo o.command words told left o
CanDoWords (Err fault) words told left = ⊥

-- all that the words ask for is there: among the files of the shelf, and on the input
abbrev pub HasAll : (words : List (List ℕ)) → (told : Option Files) → (left : Option (List ℕ)) → Type 0
HasAll words told left = CanDoWords (order_of words) words told left
