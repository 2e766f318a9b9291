-- The stages that all commands on a netlist share: its file, its text, its networks. They come in this order, and
-- nothing is read or written before them.
use Rattle.std.specs.Prelude.{ℕ, ◌⊎◌, List, Option, None, Some}
use Rattle.wdf_io.specs.Files.{Files}
use Rattle.wdf_netlist.specs.Netlists.{NetlistValue}
use Rattle.wdf_design.specs.Designs.{IsDesigned}
use Rattle.wdf_stages.specs.declared.netlist_stop.NetlistStop.TheVariants as netlists
use Rattle.wdf_stages.specs.declared.design_stop.DesignStop.{DesignStop}
use Rattle.wdf_stages.specs.declared.design_stop.DesignStop.TheVariants as designs
use Rattle.wdf_stages.specs.NetlistLoading.{Loads, NetlistRefuses}
use Rattle.wdf_stages.specs.Designing.{DesignRefuses}
use Rattle.wdf_words.specs.declared.order.Order.{Order}
use Rattle.wdf_words.specs.Orders.{file_named}
use Rattle.wdf_report.specs.declared.status.Status.{Status}
use Rattle.wdf_report.specs.declared.status.Status.TheVariants.{NetText, NotSeriesParallel, PortRange, LoadFault, Missing, FileTooLarge, NoMemory}
use Rattle.wdf.specs.declared.designed.Designed.{Designed}
use Rattle.wdf.specs.declared.networks_stop.NetworksStop.{NetworksStop}
use Rattle.wdf.specs.declared.networks_stop.NetworksStop.TheVariants.{Netlist, Design}
use Rattle.wdf.specs.World.{World, IsQuiet}

-- ---- the names of files

-- the word that names a file, which the orders of commands on files have
abbrev pub word_of : Option ℕ → ℕ
word_of None = 0
word_of (Some at) = at

-- and that name
abbrev pub name_of : List (List ℕ) → Option ℕ → List ℕ
name_of words at = file_named words (word_of at)

-- ---- the stages

-- the file that the words name stands for the netlist, and these are its networks
pub record HasNetworks (files : Option Files) (words : List (List ℕ)) (o : Order) (d : Designed) : Type 0 where
  pub loads : Loads files (name_of words o.net) d.netlist
  pub designed : IsDesigned d.netlist o.k d.networks

-- it stands for a netlist that has none
pub record LacksNetworks (files : Option Files) (words : List (List ℕ)) (o : Order) (stop : DesignStop) : Type 0 where
  pub netlist : NetlistValue
  pub loads : Loads files (name_of words o.net) netlist
  pub refuses : DesignRefuses netlist o.k stop

-- why there are no networks
abbrev pub NetworksRefuse : Option Files → List (List ℕ) → Order → NetworksStop → Type 0
NetworksRefuse files words o (Netlist stop) = NetlistRefuses files (word_of o.net) (name_of words o.net) stop
NetworksRefuse files words o (Design stop) = LacksNetworks files words o stop

-- ---- the answers

-- the call stopped there
pub record AtNetworks (w : World) (o : Order) (stop : NetworksStop) : Type 0 where
  pub refuses : NetworksRefuse w.files w.words o stop
  pub quiet : IsQuiet w

-- the rows that commands share
abbrev pub RefusesNetworks : World → Order → Status → Type 0
RefusesNetworks w o (Missing word) = AtNetworks w o (Netlist (netlists.Missing word))
RefusesNetworks w o (FileTooLarge word) = AtNetworks w o (Netlist (netlists.FileTooLarge word))
RefusesNetworks w o (NetText fault) = AtNetworks w o (Netlist (netlists.NetText fault))
RefusesNetworks w o (NotSeriesParallel side element core) = AtNetworks w o (Design (designs.NotSeriesParallel side element core))
RefusesNetworks w o (PortRange side element low) = AtNetworks w o (Design (designs.PortRange side element low))
RefusesNetworks w o LoadFault = AtNetworks w o (Netlist netlists.LoadFault)
RefusesNetworks w o NoMemory = AtNetworks w o (Netlist netlists.NoMemory) ⊎ AtNetworks w o (Design designs.NoMemory)
RefusesNetworks w o s = ⊥
