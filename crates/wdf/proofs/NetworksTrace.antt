-- The stages that commands on a netlist share, as a chain.
use Rattle.std.proofs.Common.{◌≡◌, ℕ, true, false, List, Option, Some, Err, refl}
use Rattle.std.specs.Prelude.{IsTrue}
use Rattle.wdf_io.specs.Files.{Files}
use Rattle.wdf_netlist.specs.Netlists.{NetlistValue}
use Rattle.wdf_lattice.specs.declared.networks.Networks.{Networks}
use Rattle.wdf_stages.specs.declared.netlist_stop.NetlistStop.TheVariants as netlists
use Rattle.wdf_stages.specs.declared.design_stop.DesignStop.TheVariants as designs
use Rattle.wdf_stages.specs.StageLaws.{IsNetlistAnswer, IsDesignAnswer, HasOneNetlist, HasOneDesign}
use Rattle.wdf_report.specs.declared.status.Status.{Status}
use Rattle.wdf_report.specs.declared.status.Status.TheVariants.{Done, Usage, NetText, NotSeriesParallel, PortRange, Bound, BadWave, RateMismatch, TooLong, Amplitude, Truncated, Unobservable, CertText, CertWrong, ReadFault, WriteFault, NoteFault, LoadFault, Missing, FileTooLarge, NoMemory, ChannelCount}
use Rattle.wdf_words.specs.declared.order.Order.{Order}
use Rattle.wdf.specs.declared.designed.Designed.{Designed}
use Rattle.wdf.specs.Statuses.{status_of_netlist, status_of_design}
use Rattle.wdf.specs.World.{world}
use Rattle.wdf.specs.AnswerLaws.{rests_on_told}
use Rattle.wdf.specs.NetworksAnswer.{HasNetworks, LacksNetworks, RefusesNetworks, word_of, name_of}
use Rattle.wdf.proofs.Chains.{HasOne, Chain, one_chain, stopped, passed}

-- what comes behind the networks
abbrev pub Later : Type 1
Later = NetlistValue → Networks → Status → Type 0

abbrev pub DesignTrace : Order → Later → NetlistValue → Status → Type 0
DesignTrace o later n = Chain (IsDesignAnswer n o.k) (later n) status_of_design

abbrev pub NetworksTrace : Files → List (List ℕ) → Order → Later → Status → Type 0
NetworksTrace fs words o later = Chain (IsNetlistAnswer fs (word_of o.net) (name_of words o.net)) (DesignTrace o later) status_of_netlist

-- the shared stages leave one answer where the later ones do
pub one_trace : HasOneNetlist → HasOneDesign → (fs : Files) (words : List (List ℕ)) (o : Order) (later : Later)
    → ((n : NetlistValue) (ns : Networks) → HasOne (later n ns)) → HasOne (NetworksTrace fs words o later)
one_trace one_netlist one_design fs words o later one_later =
    one_chain (IsNetlistAnswer fs (word_of o.net) (name_of words o.net)) (DesignTrace o later) status_of_netlist
    (one_netlist fs (word_of o.net) (name_of words o.net))
    (λ n loads. one_chain (IsDesignAnswer n o.k) (later n) status_of_design (one_design n o.k) (λ ns designed. one_later n ns))

-- a trace from a stop or from what was passed
pub at_netlist : (fs : Files) (words : List (List ℕ)) (o : Order) (later : Later) (stop : _)
    → IsNetlistAnswer fs (word_of o.net) (name_of words o.net) (Err stop) → NetworksTrace fs words o later (status_of_netlist stop)
at_netlist fs words o later stop h =
    stopped (IsNetlistAnswer fs (word_of o.net) (name_of words o.net)) (DesignTrace o later) status_of_netlist stop h

pub at_design : (fs : Files) (words : List (List ℕ)) (o : Order) (later : Later) (stop : _) (h : LacksNetworks (Some fs) words o stop)
    → IsDesignAnswer h.netlist o.k (Err stop) → NetworksTrace fs words o later (status_of_design stop)
at_design fs words o later stop h allowed =
    passed (IsNetlistAnswer fs (word_of o.net) (name_of words o.net)) (DesignTrace o later) status_of_netlist h.netlist (status_of_design stop) h.loads
    (stopped (IsDesignAnswer h.netlist o.k) (later h.netlist) status_of_design stop allowed)

pub behind_networks : (fs : Files) (words : List (List ℕ)) (o : Order) (later : Later) (s : Status) (d : Designed) → HasNetworks (Some fs) words o d
    → later d.netlist d.networks s → NetworksTrace fs words o later s
behind_networks fs words o later s d h behind =
    passed (IsNetlistAnswer fs (word_of o.net) (name_of words o.net)) (DesignTrace o later) status_of_netlist d.netlist s h.loads
    (passed (IsDesignAnswer d.netlist o.k) (later d.netlist) status_of_design d.networks s h.designed behind)

-- ---- the rows that commands share

pub no : false ≡ true → ⊥
no h = absurd (cc)

pub networks_trace : (fs : Files) (words : List (List ℕ)) (left left' written written' noted noted' : Option (List ℕ)) (o : Order) (later : Later) (s : Status)
    → IsTrue (rests_on_told s) → RefusesNetworks (world words (Some fs) left left' written written' noted noted') o s → NetworksTrace fs words o later s
networks_trace fs words left left' written written' noted noted' o later Done r h = absurd h
networks_trace fs words left left' written written' noted noted' o later (Usage word kind) r h = absurd h
networks_trace fs words left left' written written' noted noted' o later (NetText fault) r h = at_netlist fs words o later (netlists.NetText fault) (refl, h.refuses)
networks_trace fs words left left' written written' noted noted' o later (NotSeriesParallel side element core) r h = at_design fs words o later (designs.NotSeriesParallel side element core) h.refuses (refl, h.refuses.refuses)
networks_trace fs words left left' written written' noted noted' o later (PortRange side element low) r h = at_design fs words o later (designs.PortRange side element low) h.refuses (refl, h.refuses.refuses)
networks_trace fs words left left' written written' noted noted' o later (Bound side element ratio need limit) r h = absurd h
networks_trace fs words left left' written written' noted noted' o later (BadWave kind at) r h = absurd h
networks_trace fs words left left' written written' noted noted' o later (RateMismatch netlist wave) r h = absurd h
networks_trace fs words left left' written written' noted noted' o later (TooLong frames limit) r h = absurd h
networks_trace fs words left left' written written' noted noted' o later (Amplitude frame channel sample) r h = absurd h
networks_trace fs words left left' written written' noted noted' o later (Truncated frames) r h = absurd h
networks_trace fs words left left' written written' noted noted' o later (Unobservable side element kernel) r h = absurd h
networks_trace fs words left left' written written' noted noted' o later (CertText at range) r h = absurd h
networks_trace fs words left left' written written' noted noted' o later (CertWrong side fault) r h = absurd h
networks_trace fs words left left' written written' noted noted' o later ReadFault r h = absurd (no r)
networks_trace fs words left left' written written' noted noted' o later WriteFault r h = absurd (no r)
networks_trace fs words left left' written written' noted noted' o later NoteFault r h = absurd (no r)
networks_trace fs words left left' written written' noted noted' o later LoadFault r h = absurd (no r)
networks_trace fs words left left' written written' noted noted' o later (Missing word) r h = at_netlist fs words o later (netlists.Missing word) (refl, h.refuses)
networks_trace fs words left left' written written' noted noted' o later (FileTooLarge word) r h = at_netlist fs words o later (netlists.FileTooLarge word) (refl, h.refuses)
networks_trace fs words left left' written written' noted noted' o later NoMemory r h = absurd (no r)
networks_trace fs words left left' written written' noted noted' o later (ChannelCount have want) r h = absurd h
