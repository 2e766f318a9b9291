mod Appends
mod FaultLineTests
mod LengthLemmas
