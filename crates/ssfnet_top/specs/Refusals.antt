-- What the program answers where it does not end well: the status, and the line on `err`.
use Rattle.std.specs.Prelude.{ℕ, nat_lt, if◌then◌else◌, List, ◌∷◌, ◌++◌, map, codes, decimal}
use Rattle.ssfnet_top.specs.declared.refusal.Refusal.{Refusal}
use Rattle.ssfnet_top.specs.declared.refusal.Refusal.TheVariants.{Memory, Words, Read, Dml, Path, Shape, Write, Budget, TimelineBudget, MemoryBelow, Stopped}
use Rattle.dml_tree.specs.declared.reading.TreeFault.{TreeFault}
use Rattle.dml_tree.specs.declared.reading.TreeFault.TheVariants.{BadByte, OpenQuote, KeyWanted, ValueWanted, OpenList, StrayClose, NestedTooDeep, TooLong, Memory as TreeMemory}
use Rattle.dml_tree.specs.declared.tree.Place.{Place}
use Rattle.dml_resolve.specs.declared.resolving.PathFault.{PathFault}
use Rattle.dml_resolve.specs.declared.resolving.PathFault.TheVariants.{BadPath, UnknownPath, NotAList, TooDeep, TooLarge, Memory as PathMemory}
use Rattle.net_graph.specs.declared.fault.ShapeFault.{ShapeFault}
use Rattle.net_graph.specs.declared.fault.ShapeFault.TheVariants.{BadNhi, NoModel, BadNumber, Missing, DoubleId, UnknownNhi, AttachedTwice, UnknownSession, TooMany, NoSpace, DelayTooLong, TooManyChannels, TooManyTimelines, Memory as ShapeMemory}
use Rattle.nhi_address.specs.NhiText.{nhi_text}

-- a control byte in a name or a detail is printed as `?`
abbrev pub printable_byte : ℕ → ℕ
printable_byte b = if nat_lt b 32 then 63 else b

abbrev pub printable : List ℕ → List ℕ
printable bytes = map printable_byte bytes

abbrev pub status_of : Refusal → ℕ
status_of Memory = 1
status_of Words = 2
status_of (Read file) = 3
status_of (Dml file fault) = 4
status_of (Path file fault) = 5
status_of (Shape fault) = 6
status_of Write = 7
status_of (Budget budget) = 8
status_of (TimelineBudget timeline budget below) = 8
status_of (MemoryBelow below) = 1
status_of (Stopped worker below) = 9

-- the name of a fault in a DML text, and its place
unfoldable pub tree_fault_text : TreeFault → List ℕ
tree_fault_text (BadByte at) = codes "BadByte " ++ decimal at
tree_fault_text (OpenQuote at) = codes "OpenQuote " ++ decimal at
tree_fault_text (KeyWanted at) = codes "KeyWanted " ++ decimal at
tree_fault_text (ValueWanted at) = codes "ValueWanted " ++ decimal at
tree_fault_text (OpenList at) = codes "OpenList " ++ decimal at
tree_fault_text (StrayClose at) = codes "StrayClose " ++ decimal at
tree_fault_text (NestedTooDeep at) = codes "NestedTooDeep " ++ decimal at
tree_fault_text TooLong = codes "TooLong 16777216"
tree_fault_text TreeMemory = codes "Memory"

-- a file, the name of a fault of a substitution, and its place in the file
abbrev pub placed_text : List ℕ → List ℕ → Place → List ℕ
placed_text file name place = printable file ++ name ++ decimal place.at

unfoldable pub path_fault_text : List ℕ → PathFault → List ℕ
path_fault_text file (BadPath place) = placed_text file (codes " BadPath ") place
path_fault_text file (UnknownPath place) = placed_text file (codes " UnknownPath ") place
path_fault_text file (NotAList place) = placed_text file (codes " NotAList ") place
path_fault_text file (TooDeep place) = placed_text file (codes " TooDeep ") place
path_fault_text file TooLarge = codes "TooLarge"
path_fault_text file PathMemory = codes "Memory"

-- the name of a fault of a model, and its detail where it has one
unfoldable pub shape_fault_text : ShapeFault → List ℕ
shape_fault_text (BadNhi text) = codes "BadNhi " ++ printable text
shape_fault_text NoModel = codes "NoModel"
shape_fault_text (BadNumber key) = codes "BadNumber " ++ printable key
shape_fault_text (Missing key) = codes "Missing " ++ printable key
shape_fault_text (DoubleId nhi) = codes "DoubleId " ++ nhi_text nhi
shape_fault_text (UnknownNhi nhi) = codes "UnknownNhi " ++ nhi_text nhi
shape_fault_text (AttachedTwice nhi) = codes "AttachedTwice " ++ nhi_text nhi
shape_fault_text (UnknownSession name) = codes "UnknownSession " ++ printable name
shape_fault_text (TooMany kind) = codes "TooMany " ++ printable kind
shape_fault_text NoSpace = codes "NoSpace"
shape_fault_text DelayTooLong = codes "DelayTooLong"
shape_fault_text TooManyChannels = codes "TooManyChannels"
shape_fault_text (TooManyTimelines count) = codes "TooManyTimelines " ++ decimal count
shape_fault_text ShapeMemory = codes "Memory"

-- the line of a refusal, without the line feed behind it
unfoldable pub line_of : Refusal → List ℕ
line_of Memory = codes "memory"
line_of Words = codes "words"
line_of (Read file) = codes "read " ++ printable file
line_of (Dml file fault) = codes "dml " ++ printable file ++ 32 ∷ tree_fault_text fault
line_of (Path file fault) = codes "path " ++ path_fault_text file fault
line_of (Shape fault) = codes "shape " ++ shape_fault_text fault
line_of Write = codes "write"
line_of (Budget budget) = codes "budget list " ++ decimal budget
line_of (TimelineBudget timeline budget below) = codes "budget timeline " ++ (decimal timeline ++ (32 ∷ decimal budget ++ (codes " below " ++ decimal below)))
line_of (MemoryBelow below) = codes "memory below " ++ decimal below
line_of (Stopped worker below) = codes "stopped worker " ++ (decimal worker ++ (codes " below " ++ decimal below))
