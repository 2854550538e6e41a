-- Files that are read to be compared, one after the other, and what is put of the comparison.
use Rattle.std.proofs.Common.{◌≡◌, ◌≢◌, ℕ, ◌+◌, ◌-◌, ◌^◌, ◌<◌, ◌≤◌, min, List, length, refl, sym, subst, arith, inl, inr, Option, None, Some, IfErr, IfOk, OnOk, Result, Ok, Err}
use Rattle.std.specs.Option.{IsSomeAnd, IfSome}
use Rattle.syn_io.specs.Outside.{Disk, Rose, Screen, file_at}
use Rattle.syn_netlist.specs.Lists.{Netlist, sources}
use Rattle.syn_compare.specs.declared.answers.Comparison.{Comparison}
use Rattle.syn_report.specs.Comparisons.{comparison_text}
use Rattle.syn_words.specs.declared.formats.NetworkFile.{NetworkFile}
use Rattle.syn_words.specs.declared.formats.NetworkFile.TheVariants as files
use Rattle.syn_command_files.specs.Told.{FilesUnchanged, HasBytes}
use Rattle.syn_shell.specs.declared.refusal.FileCause.{FileCause}
use Rattle.syn_shell.specs.declared.refusal.FileCause.TheVariants as causes
use Rattle.syn_shell.specs.declared.refusal.Refusal.{Refusal}
use Rattle.syn_shell.specs.declared.refusal.Refusal.TheVariants.{NotRead, Unmatched, TooManyGates, NoNetwork, SinkFailed, NoMemory}
use Rattle.syn_build.specs.BuildFaults.{most_gates}
use Rattle.syn_network.specs.Written as graphs
use Rattle.syn_network.specs.WrittenLuts as luts
use Rattle.syn_network.specs.declared.networks.Network.{Network}
use Rattle.syn_network.specs.declared.lut_networks.LutNetwork.{LutNetwork}
use Rattle.syn_shell.specs.declared.network.HeldNetwork.{HeldNetwork}
use Rattle.syn_shell.specs.declared.network.HeldNetwork.TheVariants.{Graph, Luts}
use Rattle.syn_shell.specs.Makes.{IsRemade}
use Rattle.syn_shell.specs.Networks.{Written, gates_in, graph_network, mapped_network, network_of}
use Rattle.syn_shell.specs.Outside.{Took}
use Rattle.syn_shell.specs.Reads.{file_limit}
use Rattle.syn_shell.specs.Comparing.{AreCompared, Compared, CompareRefused, FileRefused, IsFirst, IsNotRead, IsReadFrom, IsUnmatched, cause_in}
use Rattle.syn_shell.specs.Steps.{MakingRefused, TextRefused}

-- bytes of a file that was told later too
bytes_before : (d e : Disk) (name bytes : List ℕ) → FilesUnchanged d e → HasBytes name e.told bytes → HasBytes name d.told bytes
bytes_before d e name bytes same has = subst (λ (told : Option (List (List ℕ × List ℕ))). HasBytes name told bytes) same.told has

-- what is read from a file behind another that was read before is read of the files as they were
pub read_before : (file : NetworkFile) (d e : Disk) (m : Netlist) → FilesUnchanged d e → IsReadFrom file e m → IsReadFrom file d m
read_before (files.Blif name) d e m same r = record {
  bytes = r.bytes;
  netlist = r.netlist;
  file = bytes_before d e name r.bytes same r.file;
  short = r.short;
  reads = r.reads;
  within = r.within;
  graph = r.graph;
}
read_before (files.Aiger name) d e m same r = record {
  bytes = r.bytes;
  aig = r.aig;
  file = bytes_before d e name r.bytes same r.file;
  short = r.short;
  spells = r.spells;
  within = r.within;
  graph = r.graph;
}

-- the same where it isn't

rose_before : (d e after : Disk) → FilesUnchanged d e → Rose e.faults after.faults → Rose d.faults after.faults
rose_before d e after same rose = omega (arith, same.later, rose)

long_before : (d e : Disk) (name : List ℕ) → FilesUnchanged d e → IfSome e.told (λ list. IsSomeAnd (file_at name list) (λ bytes. file_limit < length bytes))
    → IfSome d.told (λ list. IsSomeAnd (file_at name list) (λ bytes. file_limit < length bytes))
long_before d e name same long = subst (λ (told : Option (List (List ℕ × List ℕ))). IfSome told (λ list. IsSomeAnd (file_at name list) (λ bytes. file_limit < length bytes))) same.told long

refused_before : (file : NetworkFile) (d e after : Disk) (cause : FileCause) → FilesUnchanged d e → FileRefused file e after (cause_in cause) → FileRefused file d after (cause_in cause)
refused_before (files.Blif name) d e after (causes.Read fault) same why = record { bytes = why.bytes; file = bytes_before d e name why.bytes same why.file; short = why.short; first = why.first }
refused_before (files.Blif name) d e after (causes.ReadAiger fault) same why = why
refused_before (files.Blif name) d e after causes.TooLong same why = long_before d e name same why
refused_before (files.Blif name) d e after causes.GetFailed same why = rose_before d e after same why
refused_before (files.Aiger name) d e after (causes.Read fault) same why = why
refused_before (files.Aiger name) d e after (causes.ReadAiger fault) same why = record { bytes = why.bytes; file = bytes_before d e name why.bytes same why.file; short = why.short; first = why.first }
refused_before (files.Aiger name) d e after causes.TooLong same why = long_before d e name same why
refused_before (files.Aiger name) d e after causes.GetFailed same why = rose_before d e after same why

pub not_read_before : (file : NetworkFile) (d e after : Disk) (cause : Refusal) → FilesUnchanged d e → IsNotRead file e after cause → IsNotRead file d after cause
not_read_before file d e after (NotRead name cause) same why = (why.0, refused_before file d e after cause same why.1)
not_read_before file d e after NoMemory same why = why
not_read_before file d e after other same why = absurd why

-- the second file isn't read
pub second_not_read : (one : Option NetworkFile) (second : NetworkFile) (network : Option Written) (d e after : Disk) (s s' : Screen) (cause : Refusal) → FilesUnchanged d e → IsNotRead second e after cause → s' ≡ s
    → CompareRefused one second network d after s s' cause
second_not_read one second network d e after s s' (NotRead name cause) same why stays = (inr (not_read_before second d e after (NotRead name cause) same why), stays)
second_not_read one second network d e after s s' NoMemory same why stays = stays
second_not_read one second network d e after s s' other same why stays = absurd why

-- the first file isn't read
pub first_not_read : (file second : NetworkFile) (network : Option Written) (d after : Disk) (s s' : Screen) (cause : Refusal) → IsNotRead file d after cause → s' ≡ s → CompareRefused (Some file) second network d after s s' cause
first_not_read file second network d after s s' (NotRead name cause) why stays = (inl why, stays)
first_not_read file second network d after s s' NoMemory why stays = stays
first_not_read file second network d after s s' other why stays = absurd why

-- the names don't match
pub unmatched_refused : (one : Option NetworkFile) (second : NetworkFile) (network : Option Written) (d e after : Disk) (s s' : Screen) (n m : Netlist) (cause : Refusal) → IsFirst one network d n → FilesUnchanged d e
    → IsReadFrom second e m → IsUnmatched n m cause → s' ≡ s → CompareRefused one second network d after s s' cause
unmatched_refused one second network d e after s s' n m (Unmatched fault) first same read why stays =
    (record { n = n; m = m; first_is = first; second_is = read_before second d e m same read; fault_is = why.0; name = why.1 }, stays)
unmatched_refused one second network d e after s s' n m NoMemory first same read why stays = stays
unmatched_refused one second network d e after s s' n m other first same read why stays = absurd why

-- how they compare is put
pub put_compared : (r : Result (Unit {0}) Refusal) (one : Option NetworkFile) (second : NetworkFile) (network : Option Written) (d e : Disk) (s s' : Screen) (n m : Netlist) (comparison : Comparison) (text : List ℕ)
    → IsFirst one network d n → FilesUnchanged d e → IsReadFrom second e m → AreCompared n m comparison → text ≡ comparison_text (sources n.frame) comparison → OnOk r (Took text s s') → OnOk r (Compared one second network d s s')
put_compared (Ok done) one second network d e s s' n m comparison text first same read compared is took = record {
  n = n;
  m = m;
  comparison = comparison;
  first_is = first;
  second_is = read_before second d e m same read;
  compared = compared;
  took = subst (λ (t : List ℕ). Took t s s') is took;
}
put_compared (Err cause) one second network d e s s' n m comparison text first same read compared is took = tt

-- or the sink failed

part_by : (one : Option NetworkFile) (second : NetworkFile) (network : Option Written) (d e after : Disk) (s s' : Screen) (n m : Netlist) (comparison : Comparison) (text : List ℕ) (cause : Refusal) → IsFirst one network d n
    → FilesUnchanged d e → IsReadFrom second e m → AreCompared n m comparison → text ≡ comparison_text (sources n.frame) comparison → TextRefused text s s' cause → CompareRefused one second network d after s s' cause
part_by one second network d e after s s' n m comparison text SinkFailed first same read compared is part = record {
  n = n;
  m = m;
  comparison = comparison;
  first_is = first;
  second_is = read_before second d e m same read;
  compared = compared;
  took = subst (λ (t : List ℕ). TextRefused t s s' SinkFailed) is part;
}
part_by one second network d e after s s' n m comparison text other first same read compared is part = absurd part

pub part_compared : (r : Result (Unit {0}) Refusal) (one : Option NetworkFile) (second : NetworkFile) (network : Option Written) (d e after : Disk) (s s' : Screen) (n m : Netlist) (comparison : Comparison) (text : List ℕ)
    → IsFirst one network d n → FilesUnchanged d e → IsReadFrom second e m → AreCompared n m comparison → text ≡ comparison_text (sources n.frame) comparison → IfErr r (TextRefused text s s')
    → IfErr r (CompareRefused one second network d after s s')
part_compared (Ok done) one second network d e after s s' n m comparison text first same read compared is part = tt
part_compared (Err cause) one second network d e after s s' n m comparison text first same read compared is part = part_by one second network d e after s s' n m comparison text cause first same read compared is part

-- too many gates make the network a graph, or memory was refused
pub graph_refused : (second : NetworkFile) (net : Written) (d after : Disk) (s s' : Screen) (cause : Refusal) → MakingRefused gates_in (Some net) cause → s' ≡ s → CompareRefused None second (Some net) d after s s' cause
graph_refused second net d after s s' NoNetwork why stays = absurd (cc)
graph_refused second net d after s s' (TooManyGates gates) why stays = (refl, why, stays)
graph_refused second net d after s s' NoMemory why stays = stays
graph_refused second net d after s s' other why stays = absurd why

-- nothing changed between
pub unchanged : (d : Disk) → FilesUnchanged d d
unchanged d = record { told = refl; later = omega arith }

-- what a session's network is compared as: itself, or what hashing makes of it

pub first_of_graph : (held : HeldNetwork) (graph : Network) (d : Disk) → held ≡ Graph graph → IsFirst None (Some (network_of held)) d (graphs.network_of graph)
first_of_graph held graph d is =
    let net : Written = graph_network (graphs.network_of graph) in
    subst (λ (h : HeldNetwork). IsFirst None (Some (network_of h)) d (graphs.network_of graph)) (sym is) (net, net, refl, omega arith, refl, refl)

pub first_of_luts : (held : HeldNetwork) (net : LutNetwork) (graph : Network) (d : Disk) → held ≡ Luts net → IsRemade (mapped_network (luts.network_of net)) (graph_network (graphs.network_of graph))
    → gates_in (mapped_network (luts.network_of net)) ≤ most_gates → IsFirst None (Some (network_of held)) d (graphs.network_of graph)
first_of_luts held net graph d is made gates =
    subst (λ (h : HeldNetwork). IsFirst None (Some (network_of h)) d (graphs.network_of graph)) (sym is) (mapped_network (luts.network_of net), graph_network (graphs.network_of graph), refl, gates, made, refl)
