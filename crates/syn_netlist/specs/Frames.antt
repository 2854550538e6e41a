-- The frame in words that a frame by numbers stands for.
use Rattle.syn_netlist.specs.declared.frames.Frame.{Frame}
use Rattle.syn_netlist.specs.Lists as lists
use Rattle.syn_netlist.specs.Kept.{frame_of}

-- each number stands for the word at its place in the names
abbrev pub frame_in : Frame → lists.Frame
frame_in f = frame_of f.names f.model f.inputs f.clocks f.outputs f.latches
