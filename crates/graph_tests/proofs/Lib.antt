mod NoEdges
