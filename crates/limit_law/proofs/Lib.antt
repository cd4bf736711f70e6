mod Making
mod Drawing
mod Covering
mod Values
mod Deciding
