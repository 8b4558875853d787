mod Lookups
mod Packing
mod Placing
