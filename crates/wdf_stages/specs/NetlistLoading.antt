-- A netlist of the shelf: what the file of its name stands for.
use Rattle.std.specs.Prelude.{ℕ, List, Option, ⊤}
use Rattle.wdf_io.specs.Files.{Files}
use Rattle.wdf_netlist.specs.declared.net_fault.NetFault.{NetFault}
use Rattle.wdf_netlist.specs.declared.read_error.ReadError.{ReadError}
use Rattle.wdf_netlist.specs.declared.read_error.ReadError.TheVariants as readings
use Rattle.wdf_netlist.specs.Netlists.{NetlistValue}
use Rattle.wdf_netlist.specs.NetlistText.{Stands, IsFault}
use Rattle.wdf_stages.specs.declared.file_stop.FileStop.{FileStop}
use Rattle.wdf_stages.specs.declared.file_stop.FileStop.TheVariants as files_
use Rattle.wdf_stages.specs.declared.netlist_stop.NetlistStop.{NetlistStop}
use Rattle.wdf_stages.specs.declared.netlist_stop.NetlistStop.TheVariants.{Missing, FileTooLarge, NetText, LoadFault, NoMemory}
use Rattle.wdf_stages.specs.FileLoading.{IsFile, FileRefuses}

-- the file of this name stands for the netlist
pub record Loads (files : Option Files) (name : List ℕ) (n : NetlistValue) : Type 0 where
  pub text : List ℕ
  pub file : IsFile files name text
  pub stands : Stands text n

-- the file of this name stands for no netlist, and this is its first fault
pub record IsFaulty (files : Option Files) (name : List ℕ) (fault : NetFault) : Type 0 where
  pub text : List ℕ
  pub file : IsFile files name text
  pub faulty : IsFault text fault

-- why no netlist was loaded, from the file of the name in this word
abbrev pub NetlistRefuses : Option Files → (word : ℕ) → (name : List ℕ) → NetlistStop → Type 0
NetlistRefuses files word name (Missing at) = FileRefuses files word name (files_.Missing at)
NetlistRefuses files word name (FileTooLarge at) = FileRefuses files word name (files_.FileTooLarge at)
NetlistRefuses files word name (NetText fault) = IsFaulty files name fault
NetlistRefuses files word name LoadFault = ⊤
NetlistRefuses files word name NoMemory = ⊤

-- no netlist, since no file
abbrev pub netlist_stop_of : FileStop → NetlistStop
netlist_stop_of (files_.Missing at) = Missing at
netlist_stop_of (files_.FileTooLarge at) = FileTooLarge at
netlist_stop_of files_.LoadFault = LoadFault
netlist_stop_of files_.NoMemory = NoMemory

-- no netlist, since none was read
abbrev pub reading_stop_of : ReadError → NetlistStop
reading_stop_of (readings.Fault fault) = NetText fault
reading_stop_of readings.NoMemory = NoMemory
